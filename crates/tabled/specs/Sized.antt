-- What is counted before the table of a word list is written.
use Rattle.std.specs.Prelude.{◌≡◌, List, [], ℕ, ◌<◌, length, get_or}
use Rattle.paper.specs.Strings.{rules, names, classes}
use Rattle.paper.proofs.Filled.{Filled}
use Rattle.strings.proofs.Shape.{Starts}
use Rattle.labelling.specs.Ended.{name_at, ended_by}

-- The arrays hold the names and the counts of n states of a word list with k classes.
pub record Sized (b starts : List ℕ) (count n k : ℕ) (from long counts : List ℕ) : Type 0 where
  pub begun : Starts b starts count
  pub states_are : length (names (rules b)) ≡ n
  pub classes_are : k ≡ classes (rules b)
  pub named : (s : ℕ) → s < n → get_or (names (rules b)) s [] ≡ name_at b from long s
  pub counted : Filled (ended_by b count from long) counts n
