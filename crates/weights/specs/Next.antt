-- The next place of a row that holds a number.
use Rattle.std.specs.Prelude.{◌≡◌, Bool, true, false, Option, ℕ, ◌≤◌, ◌<◌, MatchOption}

-- No place of a row from `from` on and before v holds w.
abbrev pub Passed : (ℕ → ℕ) → ℕ → ℕ → ℕ → Type 0
Passed row from w v = (j : ℕ) → from ≤ j → j < v → ¬ (row j ≡ w)

-- The place r is the first from `from` on, below n, that holds w in a row; there is none where none does.
abbrev pub Next : ℕ → (ℕ → ℕ) → ℕ → ℕ → Option ℕ → Type 0
Next n row from w r = MatchOption r (Passed row from w n) (λ v. (from ≤ v) × (v < n) × (row v ≡ w) × Passed row from w v)

-- What a search for the first number from `from` on, below n, for which a test answers that it holds has asked of the test: `Answers f v b` says that it may answer b of v.
pub record First {F : Type 0} (Answers : F → ℕ → Bool → Type 0) (f : F) (from n : ℕ) (r : Option ℕ) : Type 0 where
  pub asked : MatchOption r ((v : ℕ) → from ≤ v → v < n → Answers f v false) (λ v. (from ≤ v) × (v < n) × Answers f v true × ((j : ℕ) → from ≤ j → j < v → Answers f j false))
