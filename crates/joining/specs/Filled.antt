-- An array that is filled from its first place on.
use Rattle.std.specs.Prelude.{◌≡◌, cond, List, ℕ, ◌≤◌, ◌<◌, eqb, get_or}

-- The first i places hold what they should, and all others what they held before.
pub record Filled (Right : ℕ → ℕ → Type 0) (old new : List ℕ) (i : ℕ) : Type 0 where
  pub done : (j : ℕ) → j < i → Right j (get_or new j 0)
  pub rest : (j : ℕ) → i ≤ j → get_or new j 0 ≡ get_or old j 0

-- What a place holds after a number is put in the stead of another.
abbrev pub replaced : ℕ → ℕ → ℕ → ℕ
replaced out instead a = cond (eqb a out) instead a

-- In the first i places a number is put in the stead of another, which may differ from place to place; all others hold what they held.
abbrev pub Replaced : (ℕ → ℕ) → ℕ → List ℕ → List ℕ → ℕ → Type 0
Replaced out instead old new i = Filled (λ x a. a ≡ replaced (out x) instead (get_or old x 0)) old new i
