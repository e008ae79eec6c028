-- An input cut in two.
use Rattle.std.specs.Prelude.{◌≡◌, List, ℕ, ◌≤◌, length, take, drop}

-- A place of the input cuts it as an end does that may lie behind the input's own.
pub record CutAt (input : List ℕ) (end place : ℕ) : Type 0 where
  pub inside : place ≤ length input
  pub before : take place input ≡ take end input
  pub behind : drop place input ≡ drop end input
