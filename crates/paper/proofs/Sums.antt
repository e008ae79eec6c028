-- Sums over the numbers below n.
use mathlib.Core.Path.{◌≡◌, refl, sym, ap, ap₂, ◌∙◌}
use Prim.Native.Nat.{ℕ, zero, suc, ◌+◌, ◌*◌, ◌≤◌, ◌<◌, zero-le}
use native.Mathlib.Nat.{not-suc-le-zero}
use native.Mathlib.Decide.{ℕ_discrete}
use native.Mathlib.Omega.{arith}
use Rattle.paper.specs.Below.{sum}

-- A sum depends on its terms only.
pub sum_same : (n : ℕ) (f g : ℕ → ℕ) → ((i : ℕ) → i < n → f i ≡ g i) → sum n f ≡ sum n g
sum_same zero f g e = refl
sum_same (suc n) f g e = ap₂ ◌+◌ (sum_same n f g (λ i l. e i (omega arith))) (e n (omega arith))

-- It grows with them.
pub sum_le : (n : ℕ) (f g : ℕ → ℕ) → ((i : ℕ) → i < n → f i ≤ g i) → sum n f ≤ sum n g
sum_le zero f g e = zero-le
sum_le (suc n) f g e = omega (arith, sum_le n f g (λ i l. e i (omega arith)), e n (omega arith))

-- The sum of sums.
pub sum_add : (n : ℕ) (f g : ℕ → ℕ) → sum n (λ i. f i + g i) ≡ sum n f + sum n g
sum_add zero f g = refl
sum_add (suc n) f g = omega (arith, sum_add n f g)

-- The sum of zeros.
pub sum_zero : (n : ℕ) (f : ℕ → ℕ) → ((i : ℕ) → i < n → f i ≡ 0) → sum n f ≡ 0
sum_zero zero f e = refl
sum_zero (suc n) f e = omega (arith, sum_zero n f (λ i l. e i (omega arith)), e n (omega arith))

-- The sum of one number.
pub sum_constant : (n k : ℕ) → sum n (λ i. k) ≡ n * k
sum_constant zero k = omega arith
sum_constant (suc n) k = omega (arith, sum_constant n k)

-- A sum of numbers up to k.
pub sum_bound : (n k : ℕ) (f : ℕ → ℕ) → ((i : ℕ) → i < n → f i ≤ k) → sum n f ≤ n * k
sum_bound n k f h = omega (arith, sum_le n f (λ i. k) h, sum_constant n k)

-- The order of two sums does not matter.
pub sum_swap : (n m : ℕ) (f : ℕ → ℕ → ℕ) → sum n (λ i. sum m (λ j. f i j)) ≡ sum m (λ j. sum n (λ i. f i j))
sum_swap zero m f = sym (sum_zero m (λ j. 0) (λ j l. refl))
sum_swap (suc n) m f = ap (λ t. t + sum m (λ j. f n j)) (sum_swap n m f) ∙ sym (sum_add m (λ j. sum n (λ i. f i j)) (λ j. f n j))

-- The terms before one, and it, are at most the sum.
pub sum-before : (n i : ℕ) (f : ℕ → ℕ) → i < n → sum i f + f i ≤ sum n f
sum-before zero i f h = absurd (not-suc-le-zero h)
sum-before (suc n) i f h = go (ℕ_discrete i n) (sum-before n i f)
  where
    go : Dec (i ≡ n) → (i < n → sum i f + f i ≤ sum n f) → sum i f + f i ≤ sum n f + f n
    go (yes e) ih = rw e (omega arith)
    go (no e) ih = omega (arith, ih (omega arith))

-- So is each term.
pub term_le : (n i : ℕ) (f : ℕ → ℕ) → i < n → f i ≤ sum n f
term_le n i f h = omega (arith, sum-before n i f h)

-- A sum of fewer terms is not larger.
pub sum_up : (i n : ℕ) (f : ℕ → ℕ) → i ≤ n → sum i f ≤ sum n f
sum_up i n f h = go (ℕ_discrete i n)
  where
    go : Dec (i ≡ n) → sum i f ≤ sum n f
    go (yes e) = rw e (omega arith)
    go (no e) = omega (arith, sum-before n i f (omega arith))

-- The first number of a sum apart.
pub sum_first : (n : ℕ) (f : ℕ → ℕ) → sum (suc n) f ≡ f 0 + sum n (λ i. f (suc i))
sum_first zero f = omega arith
sum_first (suc n) f = omega (arith, sum_first n f)

-- Where the numbers at one place alone may differ, the sums differ as these two do.
pub sum_altered : (n i : ℕ) (f g : ℕ → ℕ) → i < n → ((j : ℕ) → ¬ (j ≡ i) → f j ≡ g j) → sum n f + g i ≡ sum n g + f i
sum_altered zero i f g l h = absurd (not-suc-le-zero l)
sum_altered (suc n) i f g l h = go (ℕ_discrete n i) (sum_altered n i f g)
  where
    go : Dec (n ≡ i) → (i < n → ((j : ℕ) → ¬ (j ≡ i) → f j ≡ g j) → sum n f + g i ≡ sum n g + f i) → sum n f + f n + g i ≡ sum n g + g n + f i
    go (yes e) ih = rw (← e) (omega (arith, sum_same n f g (λ j k. h j (omega arith))))
    go (no e) ih = omega (arith, h n e, ih (omega arith) h)
