-- A search of the rows of all pairs with a floor for each row: a number that no key of its pairs is below.
use Rattle.std.specs.Prelude.{◌≡◌, Bool, true, Option, IfSome, List, ℕ, ◌≤◌, ◌<◌, get_or}
use Rattle.best.specs.declared.Pick.{Pick}
use Rattle.best.specs.Picked.{Found, Leads}

-- The pair (x, y) stands in one of the first i rows.
abbrev pub InRows : ℕ → ℕ → ℕ → Type 0
InRows i x y = x < i

module _ (n : ℕ) (fits : ℕ → ℕ → Bool) (key : ℕ → ℕ → ℕ) where
  -- No key of a pair that fits is below its row's floor.
  abbrev pub Floors : List ℕ → Type 0
  Floors low = (x y : ℕ) → x < y → y < n → fits x y ≡ true → get_or low x 0 ≤ key x y

  -- Of the first i rows, with a pair found or none: if the floors were floors before, it is the best, and they are floors now.
  pub record Searched (i : ℕ) (low₀ low : List ℕ) (found : Option Pick) : Type 0 where
    pub one : IfSome found (Found n fits key (InRows i))
    pub ahead : Floors low₀ → Leads n fits key (InRows i) found
    pub floors : Floors low₀ → Floors low

-- For each of the first i rows the new floor is not above the old, and in orders from 2 on it is 0, where the row is not known to hold no pair that fits.
abbrev pub Relaxed : ℕ → ℕ → List ℕ → List ℕ → Type 0
Relaxed order i old new = (x : ℕ) → x < i → (get_or new x 0 ≤ get_or old x 0) × (2 ≤ order → get_or old x 0 < 65536 → get_or new x 0 ≡ 0)
