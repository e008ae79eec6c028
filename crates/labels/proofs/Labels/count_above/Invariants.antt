-- The loop's invariant: none of the first s counts is above the most.
use Rattle.std.proofs.Common.{◌≡◌, Bool, false, List, ℕ}
use Rattle.std.specs.Prelude.{ltb}
use Rattle.paper.specs.Below.{any}
use Rattle.paper.specs.Labels.{label_count}
use Rattle.labels.proofs.Labels.count_above.Given as goal

-- The count of state s is above the most.
abbrev pub high : List ℕ → ℕ → ℕ → ℕ → Bool
high b at most s = ltb most (label_count b at s)

abbrev pub invariant-loop-s : goal.invariant-loop-s
invariant-loop-s l = any l.s (high l.b l.at l.most) ≡ false
