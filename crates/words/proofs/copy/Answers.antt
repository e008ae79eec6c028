use Rattle.std.proofs.Common.{◌≡◌, sym, refl, arith, length-set}
use Rattle.words.proofs.Placed.{placed_nothing}
use Rattle.words.proofs.Written.{copied}
use Rattle.words.proofs.copy.Goals as goal

pub loop-i-init : goal.loop-i-init
loop-i-init c = (omega arith, refl, sym (placed_nothing _ _))

pub loop-i-preserved : goal.loop-i-preserved
loop-i-preserved c =
    let l = c.loop-i in
    let a = c.args in (
      omega arith,
      simp length-set l.invariant.1,
      copied a.room.now l.room a.from.now a.at a.start l.i (omega arith) (omega arith) l.invariant.2,
    )

pub shape_of-room : goal.shape_of-room
shape_of-room c = c.loop-i.invariant.1

pub returns : goal.returns
returns c = let all : c.loop-i.i ≡ c.args.count = omega arith in rw all at c.loop-i.invariant.2
