-- The root of a tree, said in plain numbers, and neighbours counted by the pairs added: what the choice of a root is held against.
use Rattle.std.specs.Prelude.{◌≡◌, List, [], ◌∷◌, ℕ, ◌+◌, ◌≤◌, eqb}
use Rattle.paper.specs.Below.{bit}
use Rattle.paper.specs.Forest.{Trees, d, neighbours}

-- How many pairs of the list have x as an end.
abbrev pub pairs_at : ℕ → List (ℕ × ℕ) → ℕ
pairs_at x [] = 0
pairs_at x (p ∷ ps) = pairs_at x ps + (bit (eqb p.0 x) + bit (eqb p.1 x))

-- As a root r goes before y: its d is no larger; with equal d it has no fewer neighbours; and with equally many its number is no larger.
pub record GoesBefore (n : ℕ) (F : Trees) (r y : ℕ) : Type 0 where
  pub smallest : d n F r ≤ d n F y
  pub most : d n F r ≡ d n F y → neighbours n F y ≤ neighbours n F r
  pub least : d n F r ≡ d n F y → neighbours n F r ≡ neighbours n F y → r ≤ y
