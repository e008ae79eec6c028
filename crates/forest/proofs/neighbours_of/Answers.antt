use Rattle.std.proofs.Common.{refl, arith, get_or}
use Rattle.std.proofs.lemmas.List.{get_or-replicate}
use Rattle.forest.proofs.Beside.{near_small, more_small}
use Rattle.forest.proofs.neighbours_of.Goals as goal

pub loop-x-init : goal.loop-x-init
loop-x-init c = record { long = refl; counted = λ y yb. get_or-replicate 512 y 0 0 yb }

pub overflow_add-near : goal.overflow_add-near
overflow_add-near c = let l = c.loop-x in omega (arith, near_small c.args.parent.now l.near l.x l.invariant.counted l.x (omega arith))

pub overflow_add-near-then-p-x : goal.overflow_add-near-then-p-x
overflow_add-near-then-p-x c =
    let l = c.loop-x in
    let low = c.requires.1 l.x (omega arith) in
    omega (arith, more_small c.args.parent.now l.near l.x l.invariant.counted (get_or c.args.parent.now l.x 0) low (omega arith))
