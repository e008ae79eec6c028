-- The loop's invariant: the states before s have their numbers.
use Rattle.std.proofs.Common.{◌≡◌, ℕ, ◌<◌, length, get_or}
use Rattle.tally.proofs.of_states.Given as goal

abbrev pub invariant-loop-s : goal.invariant-loop-s
invariant-loop-s g l = (length l.list ≡ 512) × ((q : ℕ) → q < l.s → goal.F-post g l.f q (get_or l.list q 0))
