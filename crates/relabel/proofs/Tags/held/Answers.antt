use mathlib.Core.Path.{◌≡◌}
use Prim.Native.Nat.{◌≤◌}
use native.Mathlib.Numerals.{add-one}
use native.Mathlib.Omega.{arith}
use lib.ListN.{length}
use Rattle.relabel.specs.Pieces.{numbered}
use Rattle.relabel.proofs.Across.{many_numbered}
use Rattle.relabel.proofs.Tags.held.Goals as goal
use Rattle.relabel.proofs.Tags.held.Goals.{After-how_many-held}

-- The state has so many labels, and at most one.
many : (c : After-how_many-held) →
    (c.how_many-held.result ≡ length (numbered c.args.self.now.image.now c.loop-s.s)) × (c.how_many-held.result ≤ 1)
many c =
    many_numbered c.args.self.now.image.now c.loop-s.s c.tag.result c.how_many-held.result c.tag.ensures c.how_many-held.ensures

pub overflow_add-held : goal.overflow_add-held
overflow_add-held c = omega (arith, (many (goal.at.overflow_add-held c).After-how_many-held).1)

pub loop-s-preserved : goal.loop-s-preserved
loop-s-preserved c = (rw (add-one c.loop-s.s) (omega (arith, (many (goal.at.loop-s-preserved c).After-how_many-held).0)), omega (arith, (many (goal.at.loop-s-preserved c).After-how_many-held).1))
