-- A table and its counts.
use Rattle.std.specs.Prelude.{◌≡◌, List, ℕ, ◌≤◌, length}
use Rattle.paper.specs.Table.{states, classes, behind, table_length}

-- The table t has n states and k classes, both in range, few labels, and the length that these give.
pub record Counted (t : List ℕ) (n k : ℕ) : Type 0 where
  pub states_are : n ≡ states t
  pub classes_are : k ≡ classes t
  pub few_states : n ≤ 512
  pub few_classes : k ≤ 256
  pub few_labels : behind t ≤ 8192
  pub long : length t ≡ table_length n k (behind t)
