-- The invariant of the loop: the first x states are renumbered.
use Rattle.joining.proofs.Replaced.{Replacing}
use Rattle.joining.proofs.renumber.Given as goal

abbrev pub invariant-loop-x : goal.invariant-loop-x
invariant-loop-x l = Replacing (λ _. l.tv) l.tu l.initial.tree l.tree l.x
