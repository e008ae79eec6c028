-- The smallest number below n that passes a test, and that the first that passes is it.
use mathlib.Core.Path.{◌≡◌, refl, sym, ◌∙◌}
use mathlib.Core.Bool.{Bool, true, false, true≢false}
use mathlib.Core.Logic.{◌⊎◌, inl, inr}
use mathlib.Core.Option.{Option, none, some}
use Prim.Native.Nat.{ℕ, zero, suc, ◌≤◌, ◌<◌}
use native.Mathlib.Nat.{not-suc-le-zero}
use native.Mathlib.Decide.{ℕ_discrete}
use native.Mathlib.Omega.{arith}
use Rattle.paper.specs.Below.{when, or, first_of}

-- The number m is the smallest below n that passes the test.
pub record Least (n : ℕ) (p : ℕ → Bool) (m : ℕ) : Type 0 where
  pub below : m < n
  pub passes : p m ≡ true
  pub least : (y : ℕ) → y < n → p y ≡ true → m ≤ y

-- There is only one such number, and it depends on what passes only.
pub least_one : (n : ℕ) (p q : ℕ → Bool) (a b : ℕ) → ((y : ℕ) → y < n → p y ≡ true → q y ≡ true) → ((y : ℕ) → y < n → q y ≡ true → p y ≡ true)
    → Least n p a → Least n q b → a ≡ b
least_one n p q a b to back A B = omega (arith, A.least b B.below (back b B.below B.passes), B.least a A.below (to a A.below A.passes))

-- A number that passes, where none below it does, is it.
pub least_found : (n : ℕ) (p : ℕ → Bool) (m y : ℕ) → Least n p m → y < n → p y ≡ true → ((z : ℕ) → z < y → p z ≡ false) → y ≡ m
least_found n p m y L h e none_below = go (ℕ_discrete y m)
  where
    go : Dec (y ≡ m) → y ≡ m
    go (yes w) = w
    go (no w) = absurd (true≢false (sym L.passes ∙ none_below m (omega (arith, L.least y h e))))

module _ (p : ℕ → Bool) where
  -- The first number below n that passes.
  abbrev first : ℕ → Option ℕ
  first n = first_of n (λ y. when (p y) y)

  -- No number below n passes and there is no first, or the first is the smallest that passes.
  abbrev Search : ℕ → Type 0
  Search n = (((y : ℕ) → y < n → p y ≡ false) × (first n ≡ none)) ⊎ ((m : ℕ) × Least n p m × (first n ≡ some m))

  -- One of the two is so, by a search from below.
  search : (n : ℕ) → Search n
  search zero = inl (λ y h. absurd (not-suc-le-zero h), refl)
  search (suc n) = go (search n) (p n) refl
    where
      wider : (m : ℕ) → Least n p m → Least (suc n) p m
      wider m L = record { below = omega (arith, L.below); passes = L.passes; least = λ y hy q. at y hy q (ℕ_discrete y n) }
        where
          at : (y : ℕ) → y < suc n → p y ≡ true → Dec (y ≡ n) → m ≤ y
          at y hy q (yes w) = omega (arith, L.below)
          at y hy q (no w) = L.least y (omega arith) q

      none_at : ((y : ℕ) → y < n → p y ≡ false) → p n ≡ false → (y : ℕ) → y < suc n → Dec (y ≡ n) → p y ≡ false
      none_at h q y hy (yes w) = rw w q
      none_at h q y hy (no w) = h y (omega arith)

      least_at : ((y : ℕ) → y < n → p y ≡ false) → (y : ℕ) → y < suc n → p y ≡ true → Dec (y ≡ n) → n ≤ y
      least_at h y hy q (yes w) = omega arith
      least_at h y hy q (no w) = absurd (true≢false (sym q ∙ h y (omega arith)))

      go : Search n → (b : Bool) → p n ≡ b → Search (suc n)
      go (inr (m, L, e)) b q = inr (m, wider m L, rw e)
      go (inl (h, e)) true q = inr (n, record { below = omega arith; passes = q; least = λ y hy t. least_at h y hy t (ℕ_discrete y n) }, rw (e, q))
      go (inl (h, e)) false q = inl (λ y hy. none_at h q y hy (ℕ_discrete y n), rw (e, q))

  -- Where a number passes, the first that passes is the smallest.
  pub first_least : (n x : ℕ) → x < n → p x ≡ true → Least n p (or (first_of n (λ y. when (p y) y)) x)
  first_least n x h e = go (search n)
    where
      go : Search n → Least n p (or (first n) x)
      go (inl (none_passes, q)) = absurd (true≢false (sym e ∙ none_passes x h))
      go (inr (m, L, q)) = rw q L
