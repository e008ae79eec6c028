-- The labels of edition 2 tested list by list: that is ground 19.
use mathlib.Core.Path.{◌≡◌, refl, sym, ap, ap₂, ◌∙◌}
use mathlib.Core.Bool.{Bool, true, false, ◌||◌}
use mathlib.Core.List.{List}
use Prim.Native.Nat.{ℕ, zero, suc, ◌+◌, ◌*◌, ◌<◌, zero-le}
use native.Mathlib.Omega.{arith}
use lib.Dec.{leb, eqb}
use borrow.Author.Tests.{le-leb, lt-leb, ne_eqb}
use Rattle.paper.specs.Below.{any, sum}
use Rattle.paper.specs.Words.{number16}
use Rattle.paper.specs.Labels.{two, label_count, label, label_falls, labels_bad_of}
use Rattle.paper.proofs.Below.{any_same, any_more, any_found}
use Rattle.labels.specs.Lists.{low_of, list_bad_of, lists_bad_of}

-- A number that is 0 is not above any.
zero_or : (x low : ℕ) → eqb x 0 || leb x low ≡ leb x low
zero_or zero low = rw (le-leb 0 low zero-le) refl
zero_or (suc x) low = rw (ne_eqb (suc x) 0 (λ q. omega arith)) refl

-- Only 0 is not above 0.
zero_low : (x : ℕ) → eqb x 0 || false ≡ leb x 0
zero_low zero = refl
zero_low (suc x) = rw (lt-leb (suc x) 0 (omega arith), ne_eqb (suc x) 0 (λ q. omega arith)) refl

module _ (b : List ℕ) (at n : ℕ) where
  -- The list of a state is bad.
  abbrev pub bad : ℕ → Bool
  bad s = list_bad_of b (at + 2 * n + 2 * sum s (label_count b at)) (label_count b at s)

  -- A list that is bad is found.
  pub lists_found : (s from count : ℕ) (r : Bool) → s < n → from ≡ at + 2 * n + 2 * sum s (label_count b at) → count ≡ label_count b at s
      → r ≡ list_bad_of b from count → r ≡ true → true ≡ lists_bad_of b at n
  unfolding lists_bad_of
  lists_found s from count r hs ef ec er et = sym (any_found n s bad hs (rw (← ef, ← ec) (sym er ∙ et)))

  -- One list more that is not.
  pub lists_more : (s from count : ℕ) (r : Bool) → any s bad ≡ false → from ≡ at + 2 * n + 2 * sum s (label_count b at) → count ≡ label_count b at s
      → r ≡ list_bad_of b from count → r ≡ false → any (s + 1) bad ≡ false
  lists_more s from count r none ef ec er et = any_more s bad none (rw (← ef, ← ec) (sym er ∙ et))

  -- A label that is 0 or not above the one before is not above what it is held to.
  label_low : (s j : ℕ) → eqb (label b at n s j) 0 || label_falls b at n s j
      ≡ leb (number16 b (at + 2 * n + 2 * sum s (label_count b at) + 2 * j)) (low_of b (at + 2 * n + 2 * sum s (label_count b at)) j)
  unfolding label
  label_low s zero =
      let e : at + 2 * n + 2 * (sum s (label_count b at) + 0) ≡ at + 2 * n + 2 * sum s (label_count b at) + 2 * 0 = omega arith in
      zero_low (number16 b (at + 2 * n + 2 * (sum s (label_count b at) + 0))) ∙ ap (λ (x : ℕ). leb (number16 b x) 0) e
  label_low s (suc j) =
      let e : at + 2 * n + 2 * (sum s (label_count b at) + suc j) ≡ at + 2 * n + 2 * sum s (label_count b at) + 2 * suc j = omega arith in
      let q : at + 2 * n + 2 * (sum s (label_count b at) + j) ≡ at + 2 * n + 2 * sum s (label_count b at) + 2 * j = omega arith in
      zero_or (number16 b (at + 2 * n + 2 * (sum s (label_count b at) + suc j))) (number16 b (at + 2 * n + 2 * (sum s (label_count b at) + j)))
      ∙ ap₂ (λ (x y : ℕ). leb (number16 b x) (number16 b y)) e q

  -- So the lists are bad just where ground 19 applies to the labels of edition 2.
  pub lists_labels : lists_bad_of b at n ≡ labels_bad_of b at n two
  unfolding lists_bad_of list_bad_of
  lists_labels =
      sym
      (any_same n (λ s. any (label_count b at s) (λ j. eqb (label b at n s j) 0 || label_falls b at n s j)) (λ s. list_bad_of b (at + 2 * n + 2 * sum s (label_count b at)) (label_count b at s))
      (λ s hs. any_same (label_count b at s) (λ j. eqb (label b at n s j) 0 || label_falls b at n s j)
      (λ j. leb (number16 b (at + 2 * n + 2 * sum s (label_count b at) + 2 * j)) (low_of b (at + 2 * n + 2 * sum s (label_count b at)) j)) (λ j hj. label_low s j)))
