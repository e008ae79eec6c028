-- A sum layer by layer: numbers up to w summed are, for each number below w, how many of them are above it, summed.
use mathlib.Core.Path.{◌≡◌, ap, ◌∙◌}
use Prim.Native.Nat.{ℕ, zero, suc, ◌+◌, ◌≤◌, ◌<◌}
use native.Mathlib.Omega.{arith}
use native.Mathlib.Decide.{dec_lt}
use lib.Dec.{ltb}
use borrow.Author.Tests.{lt-ltb, le-ltb}
use Rattle.paper.specs.Below.{sum, bit, how_many_of}
use Rattle.paper.proofs.Sums.{sum_same, sum_swap}
use Rattle.paper.proofs.Counts.{count_all}

-- Of the numbers below w so many are below v, where v is at most w.
below_count : (w v : ℕ) → v ≤ w → how_many_of w (λ i. ltb i v) ≡ v
below_count zero v h = omega arith
below_count (suc w) v h = go (dec_lt w v) (below_count w v)
  where
    go : Dec (w < v) → (v ≤ w → how_many_of w (λ i. ltb i v) ≡ v) → how_many_of w (λ i. ltb i v) + bit (ltb w v) ≡ v
    go (yes l) ih = omega (arith, ap bit (lt-ltb w v l), count_all w (λ i. ltb i v) (λ i k. lt-ltb i v (omega arith)))
    go (no l) ih = omega (arith, ap bit (le-ltb w v (omega arith)), ih (omega arith))

-- The layers of f up to w together.
abbrev pub layers : ℕ → ℕ → (ℕ → ℕ) → ℕ
layers n w f = sum w (λ i. how_many_of n (λ x. ltb i (f x)))

-- They are the sum of f, where f is at most w.
pub layers_sum : (n w : ℕ) (f : ℕ → ℕ) → ((x : ℕ) → x < n → f x ≤ w) → layers n w f ≡ sum n f
layers_sum n w f h =
    sum_swap w n (λ i x. bit (ltb i (f x))) ∙ sum_same n (λ x. how_many_of w (λ i. ltb i (f x))) f (λ x l. below_count w (f x) (h x l))
