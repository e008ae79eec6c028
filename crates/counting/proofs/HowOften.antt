-- How often numbers stand in a list: no more often than the list is long, and all together just as often.
use mathlib.Core.Path.{◌≡◌, refl, sym, ap, ◌∙◌}
use mathlib.Core.List.{List, [], ◌∷◌}
use Prim.Native.Nat.{ℕ, ◌≤◌, ◌<◌}
use native.Mathlib.Decide.{ℕ_discrete}
use native.Mathlib.Omega.{arith}
use lib.Dec.{eqb}
use lib.ListN.{length}
use borrow.Author.Tests.{eq-eqb, ne_eqb}
use Rattle.paper.specs.Below.{sum, bit}
use Rattle.paper.specs.Programs.{how_often}
use Rattle.paper.proofs.Sums.{sum_same, sum_add, sum_zero}
use Rattle.paper.proofs.Counts.{bit_le, pick_one}

-- No number stands in a list more often than the list is long.
pub how_often_le : (x : ℕ) (ys : List ℕ) → how_often x ys ≤ length ys
how_often_le x [] = omega arith
how_often_le x (y ∷ ys) = omega (arith, bit_le (eqb x y), how_often_le x ys)

-- Each number of a list is below n.
abbrev pub AllBelow : ℕ → List ℕ → Type 0
AllBelow n [] = ◌≡◌ {A = ℕ} 0 0
AllBelow n (y ∷ ys) = (y < n) × AllBelow n ys

-- Two numbers are equal whichever is named first.
eqb_turned : (x y : ℕ) → eqb x y ≡ eqb y x
eqb_turned x y = go (ℕ_discrete x y)
  where
    go : Dec (x ≡ y) → eqb x y ≡ eqb y x
    go (yes e) = eq-eqb x y e ∙ sym (eq-eqb y x (sym e))
    go (no n) = ne_eqb x y n ∙ sym (ne_eqb y x (λ e. n (sym e)))

-- One number is counted once.
counted_once : (n y : ℕ) → y < n → sum n (λ x. bit (eqb x y)) ≡ 1
counted_once n y h = sum_same n (λ x. bit (eqb x y)) (λ x. bit (eqb y x)) (λ x l. ap bit (eqb_turned x y)) ∙ pick_one n y h

-- The numbers below n stand in a list of such numbers as often, all together, as the list is long.
pub how_often_sum : (n : ℕ) (ys : List ℕ) → AllBelow n ys → sum n (λ x. how_often x ys) ≡ length ys
how_often_sum n [] h = sum_zero n (λ x. 0) (λ x l. refl)
how_often_sum n (y ∷ ys) (h, hs) = omega (arith, sum_add n (λ x. bit (eqb x y)) (λ x. how_often x ys), counted_once n y h, how_often_sum n ys hs)
