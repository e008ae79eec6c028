-- Counting by a map: where each number that passes one test is met by one that passes another, no fewer pass the other.
use mathlib.Core.Path.{◌≡◌, refl, sym, ◌∙◌}
use mathlib.Core.Bool.{Bool, true, false, ◌&&◌}
use Prim.Native.Nat.{ℕ, ◌≤◌, ◌<◌, zero-le}
use native.Mathlib.Omega.{arith}
use lib.Dec.{eqb}
use borrow.Author.Tests.{eq-eqb, eqb-true}
use Rattle.paper.specs.Below.{bit, how_many_of}
use Rattle.paper.proofs.Sums.{sum_le, sum_swap}
use Rattle.paper.proofs.Counts.{count_none, count-found, at_most_one}

module _ (n m : ℕ) (p q : ℕ → Bool) (to : ℕ → ℕ) where
  -- The number j passes the second test and goes to i.
  abbrev meets : ℕ → ℕ → Bool
  meets i j = q j && eqb (to j) i

  -- A number that passes meets one number at most, and one that does not meets none.
  meets_once : (j : ℕ) → how_many_of n (λ i. meets i j) ≤ bit (q j)
  meets_once j = go (q j)
    where
      go : (b : Bool) → how_many_of n (λ i. b && eqb (to j) i) ≤ bit b
      go true = at_most_one n (λ i. eqb (to j) i) (λ i k hi hk e f. sym (eqb-true (to j) i e) ∙ eqb-true (to j) k f)
      go false = omega (arith, count_none n)

  -- So no fewer numbers pass the second test than the first.
  pub count_onto : ((i : ℕ) → i < n → p i ≡ true → (j : ℕ) × (j < m) × (q j ≡ true) × (to j ≡ i)) → how_many_of n p ≤ how_many_of m q
  count_onto met =
      omega (
        arith,
        sum_le n (λ i. bit (p i)) (λ i. how_many_of m (meets i)) one,
        sum_swap n m (λ i j. bit (meets i j)),
        sum_le m (λ j. how_many_of n (λ i. meets i j)) (λ j. bit (q j)) (λ j h. meets_once j),
      )
    where
      one : (i : ℕ) → i < n → bit (p i) ≤ how_many_of m (meets i)
      one i h = go (p i) refl
        where
          go : (b : Bool) → p i ≡ b → bit b ≤ how_many_of m (meets i)
          go true e = let (j, l, passes, e') = met i h e in count-found m j (meets i) l (rw (passes, eq-eqb (to j) i e'))
          go false e = zero-le
