-- Rows of two cells, one for each of two classes: row s is the cells 2s and 2s + 1 of a list.
use Rattle.std.specs.Prelude.{◌≡◌, ◌⊎◌, List, ℕ, ◌+◌, ◌≤◌, ◌<◌, length, get_or}

-- The cells outside the two from a place on are as they were.
abbrev pub Elsewhere : List ℕ → List ℕ → ℕ → Type 0
Elsewhere old new at = (x : ℕ) → (x < at) ⊎ (at + 2 ≤ x) → get_or new x 0 ≡ get_or old x 0

-- The row at a place has become what the row at another place was, one hop further.
pub record Fell (to hop : List ℕ) (from at : ℕ) (to' hop' : List ℕ) : Type 0 where
  pub to_long : length to' ≡ 1026
  pub hop_long : length hop' ≡ 1026
  pub to_fell : (q : ℕ) → q < 2 → get_or to' (at + q) 0 ≡ get_or to (from + q) 0
  pub hop_fell : (q : ℕ) → q < 2 → get_or hop' (at + q) 0 ≡ get_or hop (from + q) 0 + 1
  pub to_elsewhere : Elsewhere to to' at
  pub hop_elsewhere : Elsewhere hop hop' at
