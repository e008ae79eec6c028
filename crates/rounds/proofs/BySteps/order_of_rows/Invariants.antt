-- The invariant of the loop: on the classes before c the next states have one name.
use Rattle.std.proofs.Common.{◌≡◌, ℕ, ◌<◌}
use Rattle.rounds.specs.Steps.{after}
use Rattle.rounds.proofs.BySteps.order_of_rows.Given as goal

abbrev pub invariant-loop-c : goal.invariant-loop-c
invariant-loop-c l = (d : ℕ) → d < l.c → after l.table.bytes.now l.name l.x d ≡ after l.table.bytes.now l.name l.y d
