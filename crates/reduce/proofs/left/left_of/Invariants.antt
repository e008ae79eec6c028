-- The invariant of the loop: the states before x are numbered.
use Rattle.reduction.proofs.Numbered.{Numbering}
use Rattle.reduce.proofs.left.left_of.Given as goal

abbrev pub invariant-loop-x : goal.invariant-loop-x
invariant-loop-x l = Numbering l.name l.x l.rank l.old l.count
