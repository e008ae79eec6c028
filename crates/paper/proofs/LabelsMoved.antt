-- Labels copied from one place to another, in both editions: where the numbers of 16 bits are the same, so are the labels.
use mathlib.Core.Path.{◌≡◌, refl, ap, ◌∙◌}
use mathlib.Core.List.{List, [], ◌∷◌}
use Prim.Native.Nat.{ℕ, ◌+◌, ◌*◌, ◌<◌}
use native.Mathlib.Omega.{arith}
use Rattle.paper.specs.Below.{sum, list}
use Rattle.paper.specs.Words.{number16}
use Rattle.paper.specs.Labels.{Edition, one, two, label_list, label_count, label, labels_from, labels_behind}
use Rattle.paper.proofs.Below.{each_same}
use Rattle.paper.proofs.Sums.{sum_same, sum-before}

module _ (b b' : List ℕ) (place place' n : ℕ) where
  -- The first so many numbers from the one place on are those from the other place on.
  abbrev pub Copied : ℕ → Type 0
  Copied size = (i : ℕ) → i < size → number16 b' (place' + 2 * i) ≡ number16 b (place + 2 * i)

  -- The counts of labels are the same.
  count-moved : Copied n → (s : ℕ) → s < n → label_count b' place' s ≡ label_count b place s
  unfolding label_count
  count-moved h s hs = h s hs

  -- So is each label behind them.
  label-moved : Copied (n + sum n (label_count b place)) → (s j : ℕ) → s < n → j < label_count b place s → label b' place' n s j ≡ label b place n s j
  unfolding label
  label-moved h s j hs hj =
      let first : Copied n = λ i hi. h i (omega arith) in
      let i = n + (sum s (label_count b place) + j) in
      let e : place' + 2 * n + 2 * (sum s (label_count b' place') + j) ≡ place' + 2 * i = omega (arith, sum_same s (label_count b' place') (label_count b place) (λ r hr. count-moved first r (omega arith))) in
      let q : place + 2 * i ≡ place + 2 * n + 2 * (sum s (label_count b place) + j) = omega arith in
      ap (number16 b') e ∙ h i (omega (arith, sum-before n s (label_count b place) hs)) ∙ ap (number16 b) q

  -- As many labels stand behind their counts.
  pub behind_moved : (e : Edition) → Copied (n + labels_behind b place n e) → labels_behind b' place' n e ≡ labels_behind b place n e
  unfolding labels_behind
  behind_moved one h = refl
  behind_moved two h = sum_same n (label_count b' place') (label_count b place) (count-moved (λ i hi. h i (omega arith)))

  -- The labels of each state are the same.
  pub labels-moved : (e : Edition) → Copied (n + labels_behind b place n e) → (s : ℕ) → s < n → labels_from b' place' n e s ≡ labels_from b place n e s
  unfolding labels_from labels_behind
  labels-moved one h s hs = ap label_list (h s (omega arith))
  labels-moved two h s hs =
      ap (λ (c : ℕ). list c (label b' place' n s)) (count-moved (λ i hi. h i (omega arith)) s hs)
      ∙ each_same (label_count b place s) (λ j. label b' place' n s j ∷ []) (λ j. label b place n s j ∷ []) (λ j hj. ap (λ (x : ℕ). x ∷ []) (label-moved h s j hs hj))
