-- Lists of labels tested as they stand: each label is held to the one before it, the first to 0.
use Rattle.std.specs.Prelude.{Bool, List, ℕ, zero, suc, ◌+◌, ◌*◌, leb}
use Rattle.paper.specs.Below.{any, sum}
use Rattle.paper.specs.Words.{number16}
use Rattle.paper.specs.Labels.{label_count}

module _ (b : List ℕ) where
  -- What a label of the list that begins at a place must be above: the one before it, and 0 for the first.
  abbrev pub low_of : ℕ → ℕ → ℕ
  low_of from zero = 0
  low_of from (suc j) = number16 b (from + 2 * j)

  -- Some label of a list of so many is not above that.
  unfoldable pub list_bad_of : ℕ → ℕ → Bool
  list_bad_of from count = any count (λ j. leb (number16 b (from + 2 * j)) (low_of from j))

  -- Some list of n states, behind their counts, is such.
  unfoldable pub lists_bad_of : ℕ → ℕ → Bool
  lists_bad_of at n = any n (λ s. list_bad_of (at + 2 * n + 2 * sum s (label_count b at)) (label_count b at s))
