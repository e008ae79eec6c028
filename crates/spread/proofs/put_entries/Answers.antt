use mathlib.Core.Path.{◌≡◌}
use Prim.Native.Nat.{◌/◌, ◌<◌}
use native.Mathlib.Omega.{arith}
use lib.ListN.{length}
use Rattle.spread.proofs.Overlay.{overlaid_none, overlaid_more}
use Rattle.spread.proofs.put_entries.Goals as goal
use Rattle.spread.proofs.put_entries.Goals.{After-get16-class}

-- The class that is read is below k.
class_below : (c : After-get16-class) → c.get16-class.result < c.args.k
class_below c =
    let l = c.loop-j in
    omega (arith, c.get16-class.ensures, c.requires.0.below l.j (omega arith))

pub loop-j-init : goal.loop-j-init
loop-j-init c = overlaid_none _ _ _ _

pub put16-requires : goal.put16-requires
put16-requires c = omega (arith, class_below (goal.at.put16-requires c).After-get16-class)

pub loop-j-preserved : goal.loop-j-preserved
loop-j-preserved c =
    let l = c.loop-j in
    rw c.put16.ensures
    (overlaid_more l.invariant _ c.requires.0.rising (omega arith) c.get16-class.result c.get16-next.result c.get16-class.ensures (class_below (goal.at.loop-j-preserved c).After-get16-class)
    c.get16-next.ensures (omega arith) c.requires.1)

pub shape_of-room : goal.shape_of-room
shape_of-room c = c.loop-j.invariant.kept.long

pub returns : goal.returns
returns c = let all : c.loop-j.j ≡ length c.args.part.now / 4 = omega arith in rw all at c.loop-j.invariant
