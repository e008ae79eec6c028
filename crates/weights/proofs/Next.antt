-- The next place of a row that holds a number, sought by a test of places.
use Rattle.std.proofs.Common.{◌≡◌, Bool, true, false, Option, Some, None, IfSome, unwrap_or, ℕ, ◌≤◌, ◌<◌}
use Rattle.weights.specs.Next.{Passed, Next, First}

-- What the search finds is the next place, where the test says whether a place holds the number.
pub first_next : {F : Type 0} (Answers : F → ℕ → Bool → Type 0) (f : F) (row : ℕ → ℕ) (from n w : ℕ) (r : Option ℕ)
    → First Answers f from n r → ((v : ℕ) → Answers f v true → row v ≡ w) → ((v : ℕ) → Answers f v false → ¬ (row v ≡ w)) → Next n row from w r
first_next Answers f row from n w None P holds fails = λ j l h. fails j (P.asked j l h)
first_next Answers f row from n w (Some v) P holds fails =
    let a = P.asked in (a.0, a.1, holds v a.2, λ j l h. fails j (a.3 j l h))

module _ (n : ℕ) (row : ℕ → ℕ) (from w : ℕ) where
  -- The next place is behind those passed.
  pub next_behind : (r : Option ℕ) → from ≤ n → Next n row from w r → from ≤ unwrap_or r n
  next_behind None l P = l
  next_behind (Some v) l P = P.0

  -- What is known of it, where there is one.
  pub next_place : (r : Option ℕ) → Next n row from w r → IfSome r (λ v. (from ≤ v) × (v < n) × (row v ≡ w))
  next_place None P = tt
  next_place (Some v) P = (P.0, P.1, P.2)
