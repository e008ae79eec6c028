-- The labels of a state as numbers that stand one behind the other, in both editions.
use mathlib.Core.Path.{◌≡◌, refl, sym, ap, ◌∙◌}
use mathlib.Core.List.{List, [], ◌∷◌}
use Prim.Native.Nat.{ℕ, zero, suc, ◌+◌, ◌*◌}
use native.Mathlib.Omega.{arith}
use lib.ListN.{length}
use Rattle.paper.specs.Below.{sum, list}
use Rattle.paper.specs.Words.{number16}
use Rattle.paper.specs.Labels.{Edition, one, two, label_list, label_count, label, labels_from}
use Rattle.paper.proofs.Below.{each_same}
use Rattle.paper.proofs.Lists.{length-list}

-- A number's label is the number, where it has one.
label_part : (x : ℕ) (f : ℕ → ℕ) → f 0 ≡ x → label_list x ≡ list (length (label_list x)) f
label_part zero f e = refl
label_part (suc x) f e = ap (λ (l : ℕ). l ∷ []) (sym e)

module _ (b : List ℕ) (place n : ℕ) where
  -- Where the first label of a state stands, if it has one: in edition 1 by state from the place on, in edition 2 behind the counts.
  abbrev pub label_place : Edition → ℕ → ℕ
  label_place one s = place + 2 * s
  label_place two s = place + 2 * n + 2 * sum s (label_count b place)

  -- The labels of a state are the numbers from there on.
  pub labels_there : (e : Edition) (s : ℕ) → labels_from b place n e s ≡ list (length (labels_from b place n e s)) (λ j. number16 b (label_place e s + 2 * j))
  unfolding labels_from label
  labels_there one s =
      let e : place + 2 * s + 2 * 0 ≡ place + 2 * s = omega arith in
      label_part (number16 b (place + 2 * s)) (λ j. number16 b (place + 2 * s + 2 * j)) (ap (number16 b) e)
  labels_there two s =
      let c = label_count b place s in
      let from = place + 2 * n + 2 * sum s (label_count b place) in
      let at : (j : ℕ) → place + 2 * n + 2 * (sum s (label_count b place) + j) ≡ from + 2 * j = λ j. omega arith in
      each_same c (λ j. label b place n s j ∷ []) (λ j. number16 b (from + 2 * j) ∷ []) (λ j hj. ap (λ (x : ℕ). number16 b x ∷ []) (at j))
      ∙ ap (λ (x : ℕ). list x (λ j. number16 b (from + 2 * j))) (sym (length-list c (label b place n s)))
