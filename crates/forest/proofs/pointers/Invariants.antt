-- The invariant of the loop: the first s states have their defaults, all others their parents.
use Rattle.joining.proofs.Replaced.{Replacing}
use Rattle.forest.proofs.pointers.Given as goal

abbrev pub invariant-loop-s : goal.invariant-loop-s
invariant-loop-s l = Replacing (λ x. x) 65535 l.initial.chosen l.chosen l.s
