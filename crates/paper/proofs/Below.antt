-- Laws of tests, largest numbers and first values over the numbers below n.
use mathlib.Core.Path.{◌≡◌, refl, sym, ap, ap₂, ◌∙◌}
use mathlib.Core.Bool.{Bool, true, false, ◌&&◌, ◌||◌, or-true, true≢false}
use mathlib.Core.Logic.{◌⊎◌, inl, inr}
use mathlib.Core.List.{List, ◌++◌}
use mathlib.Core.Option.{Option, none, some}
use Prim.Native.Nat.{ℕ, zero, suc, ◌+◌, ◌≤◌, ◌<◌, max}
use native.Mathlib.Nat.{not-suc-le-zero}
use native.Mathlib.Numerals.{add-one}
use native.Mathlib.Decide.{ℕ_discrete, dec_le, dec_lt}
use native.Mathlib.Omega.{arith}
use lib.Dec.{leb}
use borrow.Author.Tests.{le-leb, lt-leb}
use Rattle.paper.specs.Below.{every, any, largest, each, first_of, or_else, when}

-- A test that cannot pass fails.
pub bool_false : (b : Bool) → (b ≡ true → ⊥) → b ≡ false
bool_false true n = absurd (n refl)
bool_false false n = refl

-- Two tests pass together.
pub and_true : (a b : Bool) → a && b ≡ true → (a ≡ true) × (b ≡ true)
and_true true b e = (refl, e)
and_true false b e = absurd (true≢false (sym e))

-- A test that passes everywhere.
pub every_all : (n : ℕ) (p : ℕ → Bool) → ((i : ℕ) → i < n → p i ≡ true) → every n p ≡ true
every_all zero p h = refl
every_all (suc n) p h = rw (every_all n p (λ i hi. h i (omega arith)), h n (omega arith))

-- Where it passes everywhere, it passes at each number.
pub every_at : (n i : ℕ) (p : ℕ → Bool) → every n p ≡ true → i < n → p i ≡ true
every_at zero i p e h = absurd (not-suc-le-zero h)
every_at (suc n) i p e h = go (ℕ_discrete i n) (and_true (every n p) (p n) e) (every_at n i p)
  where
    go : Dec (i ≡ n) → (every n p ≡ true) × (p n ≡ true) → (every n p ≡ true → i < n → p i ≡ true) → p i ≡ true
    go (yes q) e ih = rw q e.1
    go (no q) e ih = ih e.0 (omega arith)

-- A loop that looks for a number that passes: none so far and not the next.
pub any_more : (i : ℕ) (p : ℕ → Bool) → any i p ≡ false → p i ≡ false → any (i + 1) p ≡ false
any_more i p h e = rw (add-one i, h, e)

-- One that passes is enough.
pub any_found : (n i : ℕ) (p : ℕ → Bool) → i < n → p i ≡ true → any n p ≡ true
any_found zero i p h e = absurd (not-suc-le-zero h)
any_found (suc n) i p h e = go (ℕ_discrete i n) (any_found n i p)
  where
    go : Dec (i ≡ n) → (i < n → p i ≡ true → any n p ≡ true) → any n p || p n ≡ true
    go (yes q) ih = rw (← q, e, or-true)
    go (no q) ih = rw (ih (omega arith) e)

-- Where some number passes, there is one.
pub any_some : (n : ℕ) (p : ℕ → Bool) → any n p ≡ true → (i : ℕ) × (i < n) × (p i ≡ true)
any_some zero p e = absurd (true≢false (sym e))
any_some (suc n) p e = go (p n) refl (any n p) refl e (any_some n p)
  where
    go : (b : Bool) → p n ≡ b → (a : Bool) → any n p ≡ a → a || b ≡ true → (any n p ≡ true → (i : ℕ) × (i < n) × (p i ≡ true))
        → (i : ℕ) × (i < suc n) × (p i ≡ true)
    go true q a r e ih = (n, omega arith, q)
    go false q true r e ih = let (i, h, w) = ih r in (i, omega arith, w)
    go false q false r e ih = absurd (true≢false (sym e))

-- Where none passes, none does at any place.
pub any_at : (n i : ℕ) (p : ℕ → Bool) → any n p ≡ false → i < n → p i ≡ false
any_at n i p h l = bool_false (p i) (λ e. true≢false (sym (any_found n i p l e) ∙ h))

-- And the other way.
pub any_none : (n : ℕ) (p : ℕ → Bool) → ((i : ℕ) → i < n → p i ≡ false) → any n p ≡ false
any_none zero p h = refl
any_none (suc n) p h = rw (any_none n p (λ i hi. h i (omega arith)), h n (omega arith))

-- A number that the larger of two is not below, one of them is not below.
leb-max : (n a b : ℕ) → leb n (max a b) ≡ leb n b || leb n a
leb-max n a b = go (dec_lt a n) (dec_lt b n)
  where
    go : Dec (a < n) → Dec (b < n) → leb n (max a b) ≡ leb n b || leb n a
    go (yes p) (yes q) = rw (lt-leb n (max a b) (omega arith), lt-leb n a p, lt-leb n b q)
    go (yes p) (no q) = rw (le-leb n (max a b) (omega arith), le-leb n b (omega arith))
    go (no p) q = rw (le-leb n (max a b) (omega arith), le-leb n a (omega arith), or-true (leb n b))

-- The largest is not below a number above 0 just where one of them is not.
pub largest-any : (n : ℕ) → 0 < n → (j : ℕ) (f : ℕ → ℕ) → leb n (largest j f) ≡ any j (λ i. leb n (f i))
largest-any n h zero f = lt-leb n 0 h
largest-any n h (suc j) f = leb-max n (f j) (largest j f) ∙ ap (λ (o : Bool). o || leb n (f j)) (largest-any n h j f)

-- The largest is not below any.
pub largest_upper : (n i : ℕ) (f : ℕ → ℕ) → i < n → f i ≤ largest n f
largest_upper zero i f h = absurd (not-suc-le-zero h)
largest_upper (suc n) i f h = go (ℕ_discrete i n) (largest_upper n i f)
  where
    go : Dec (i ≡ n) → (i < n → f i ≤ largest n f) → f i ≤ max (f n) (largest n f)
    go (yes q) ih = rw q (omega arith)
    go (no q) ih = omega (arith, ih (omega arith))

-- It is not above what none is above.
pub largest_least : (n m : ℕ) (f : ℕ → ℕ) → ((i : ℕ) → i < n → f i ≤ m) → largest n f ≤ m
largest_least zero m f h = omega arith
largest_least (suc n) m f h = omega (arith, h n (omega arith), largest_least n m f (λ i l. h i (omega arith)))

-- It is 0 or one of them.
pub largest_met : (n : ℕ) (f : ℕ → ℕ) → (largest n f ≡ 0) ⊎ ((i : ℕ) × (i < n) × (f i ≡ largest n f))
largest_met zero f = inl refl
largest_met (suc n) f = go (dec_le (largest n f) (f n)) (largest_met n f)
  where
    go : Dec (largest n f ≤ f n) → (largest n f ≡ 0) ⊎ ((i : ℕ) × (i < n) × (f i ≡ largest n f))
        → (max (f n) (largest n f) ≡ 0) ⊎ ((i : ℕ) × (i < suc n) × (f i ≡ max (f n) (largest n f)))
    go (yes l) m = inr (n, omega arith, omega arith)
    go (no l) (inl z) = absurd (l (omega arith))
    go (no l) (inr (i, h, e)) = inr (i, omega arith, omega arith)

-- Of at least one number the largest is one.
pub largest_attained : (n : ℕ) (f : ℕ → ℕ) → 0 < n → (i : ℕ) × (i < n) × (f i ≡ largest n f)
largest_attained n f h = go (largest_met n f)
  where
    go : (largest n f ≡ 0) ⊎ ((i : ℕ) × (i < n) × (f i ≡ largest n f)) → (i : ℕ) × (i < n) × (f i ≡ largest n f)
    go (inl z) = (0, h, omega (arith, largest_upper n 0 f h))
    go (inr m) = m

-- Where no number passes the test, there is no first.
pub first_of_none : (n : ℕ) (p : ℕ → Bool) → ((i : ℕ) → i < n → p i ≡ false) → first_of n (λ i. when (p i) i) ≡ none
first_of_none zero p h = refl
first_of_none (suc n) p h = rw (first_of_none n p (λ i l. h i (omega arith)), h n (omega arith))

-- Where one number passes the test, it is the first.
pub first_of_one : (n r : ℕ) (p : ℕ → Bool) → r < n → p r ≡ true → ((i : ℕ) → i < n → p i ≡ true → i ≡ r) → first_of n (λ i. when (p i) i) ≡ some r
first_of_one zero r p h e u = absurd (not-suc-le-zero h)
first_of_one (suc n) r p h e u = go (ℕ_discrete r n) (first_of_one n r p)
  where
    go : Dec (r ≡ n) → (r < n → p r ≡ true → ((i : ℕ) → i < n → p i ≡ true → i ≡ r) → first_of n (λ i. when (p i) i) ≡ some r)
        → or_else (first_of n (λ i. when (p i) i)) (when (p n) n) ≡ some r
    go (yes q) ih = rw (first_of_none n p (λ i l. bool_false (p i) (λ t. let z : i ≡ r = u i (omega arith) t in absurd (omega arith))), ← q, e)
    go (no q) ih = rw (ih (omega arith) e (λ i l. u i (omega arith)))

module _ (f : ℕ → Option ℕ) where
  -- The first value is one of the values, and no number before it has one.
  pub first_of_some : (n a : ℕ) → first_of n f ≡ some a → (j : ℕ) × (j < n) × (f j ≡ some a)
  first_of_some zero a e = let z : ◌≡◌ {A = ℕ} 0 1 = cc in absurd (omega arith)
  first_of_some (suc n) a e = go (first_of n f) refl e (first_of_some n a)
    where
      go : (o : Option ℕ) → first_of n f ≡ o → or_else o (f n) ≡ some a → (first_of n f ≡ some a → (j : ℕ) × (j < n) × (f j ≡ some a))
          → (j : ℕ) × (j < suc n) × (f j ≡ some a)
      go none q e ih = (n, omega arith, e)
      go (some x) q e ih = let (j, h, w) = ih (q ∙ e) in (j, omega arith, w)

  -- Where there is no first value, no number has one.
  pub first_of_empty : (n j : ℕ) → first_of n f ≡ none → j < n → f j ≡ none
  first_of_empty zero j e h = absurd (not-suc-le-zero h)
  first_of_empty (suc n) j e h = go (first_of n f) refl e (ℕ_discrete j n) (first_of_empty n j)
    where
      go : (o : Option ℕ) → first_of n f ≡ o → or_else o (f n) ≡ none → Dec (j ≡ n) → (first_of n f ≡ none → j < n → f j ≡ none) → f j ≡ none
      go none q e (yes w) ih = rw w e
      go none q e (no w) ih = ih q (omega arith)
      go (some x) q e d ih = let z : ◌≡◌ {A = ℕ} 0 1 = cc in absurd (omega arith)

  -- Where no number has a value there is no first.
  pub first_of_nowhere : (n : ℕ) → ((i : ℕ) → i < n → f i ≡ none) → first_of n f ≡ none
  first_of_nowhere zero h = refl
  first_of_nowhere (suc n) h = rw (first_of_nowhere n (λ i l. h i (omega arith)), h n (omega arith))

  -- A value before which there is none is the first.
  pub first_of_at : (n j a : ℕ) → j < n → ((i : ℕ) → i < j → f i ≡ none) → f j ≡ some a → first_of n f ≡ some a
  first_of_at zero j a l h e = absurd (not-suc-le-zero l)
  first_of_at (suc n) j a l h e = go (ℕ_discrete j n) (first_of_at n j a)
    where
      go : Dec (j ≡ n) → (j < n → ((i : ℕ) → i < j → f i ≡ none) → f j ≡ some a → first_of n f ≡ some a) → or_else (first_of n f) (f n) ≡ some a
      go (yes q) ih = rw (first_of_nowhere n (λ i hi. h i (omega arith)), ← q, e)
      go (no q) ih = rw (ih (omega arith) h e)

-- What is made of the numbers below n depends on the values there only.
pub any_same : (n : ℕ) (p q : ℕ → Bool) → ((i : ℕ) → i < n → p i ≡ q i) → any n p ≡ any n q
any_same zero p q h = refl
any_same (suc n) p q h = ap₂ ◌||◌ (any_same n p q (λ i hi. h i (omega arith))) (h n (omega arith))

-- So with the largest.
pub largest_same : (n : ℕ) (f g : ℕ → ℕ) → ((i : ℕ) → i < n → f i ≡ g i) → largest n f ≡ largest n g
largest_same zero f g h = refl
largest_same (suc n) f g h = ap₂ max (h n (omega arith)) (largest_same n f g (λ i hi. h i (omega arith)))

module _ {A : Type 0} where
  -- So with lists of lists.
  pub each_same : (n : ℕ) (f g : ℕ → List A) → ((i : ℕ) → i < n → f i ≡ g i) → each n f ≡ each n g
  each_same zero f g h = refl
  each_same (suc n) f g h = ap₂ ◌++◌ (each_same n f g (λ i hi. h i (omega arith))) (h n (omega arith))

  -- So with the first value.
  pub first_of_same : (n : ℕ) (f g : ℕ → Option A) → ((i : ℕ) → i < n → f i ≡ g i) → first_of n f ≡ first_of n g
  first_of_same zero f g h = refl
  first_of_same (suc n) f g h = ap₂ or_else (first_of_same n f g (λ i hi. h i (omega arith))) (h n (omega arith))
