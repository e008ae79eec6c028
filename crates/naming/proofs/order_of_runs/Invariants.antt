-- The invariant of the loop: the numbers before j are the same.
use Rattle.std.proofs.Common.{◌≡◌, ℕ, ◌+◌, ◌*◌, ◌<◌}
use Rattle.paper.specs.Words.{number16}
use Rattle.naming.proofs.order_of_runs.Given as goal

abbrev pub invariant-loop-j : goal.invariant-loop-j
invariant-loop-j l = (i : ℕ) → i < l.j → number16 l.t (l.from + 2 * i) ≡ number16 l.t (l.other + 2 * i)
