-- The invariant of the loop: the test holds of no number from `from` on and before v.
use Rattle.std.proofs.Common.{ℕ, ◌≤◌, ◌<◌, false}
use Rattle.weights.proofs.first_of.Given as goal

abbrev pub invariant-loop-v : goal.invariant-loop-v
invariant-loop-v g l = (j : ℕ) → l.from ≤ j → j < l.v → g.F.Fn.post l.holds (j, tt) false
