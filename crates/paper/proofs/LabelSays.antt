-- Ground 19, for the counts of labels and for the labels, is the paper's sentence, both ways, in both editions.
use mathlib.Core.Path.{◌≡◌, refl, sym}
use mathlib.Core.Bool.{◌||◌, true≢false}
use mathlib.Core.List.{List}
use Prim.Native.Nat.{ℕ, zero, suc, ◌+◌, ◌*◌, ◌<◌}
use native.Mathlib.Omega.{arith}
use lib.Dec.{ltb, leb, eqb}
use lib.ListN.{length}
use Rattle.paper.specs.Below.{any}
use Rattle.paper.specs.Labels.{Edition, one, two, label_count, label, counts_bad_of, label_falls, labels_bad_of}
use Rattle.paper.specs.Sentences.{CountsWrong, LabelWrong, LabelsWrong}
use Rattle.paper.proofs.Tests.{Holds, holds_less, holds_up_to, holds_not_below, holds_equal, holds_or, holds_and, holds_some}
use Rattle.paper.proofs.Editions.{one≢two}
use Rattle.paper.proofs.ViewSays.{holds_pairs}

module _ (b : List ℕ) (place n : ℕ) where
  -- A count above 16, where the input does not end inside the counts.
  pub holds_counts : (e : Edition) → Holds (counts_bad_of b place n e) (CountsWrong b place n e)
  holds_counts one = (λ q. absurd (true≢false (sym q)), λ w. absurd (one≢two w.0))
  holds_counts two =
      let h = holds_and (leb (place + 2 * n) (length b)) (any n (λ s. ltb 16 (label_count b place s))) (holds_up_to (place + 2 * n) (length b))
      (holds_some n (λ s. ltb 16 (label_count b place s)) (λ s. 16 < label_count b place s) (λ s hs. holds_less 16 (label_count b place s))) in
      (λ q. (refl, (h.0 q).0, (h.0 q).1), λ w. h.1 (w.1, w.2))

  -- A label that is not above the one before.
  holds_falls : (s j : ℕ) → Holds (label_falls b place n s j) ((i : ℕ) × (j ≡ suc i) × (¬ (label b place n s i < label b place n s j)))
  holds_falls s zero = (λ q. absurd (true≢false (sym q)), λ w. absurd (omega (arith, w.1)))
  holds_falls s (suc i) =
      let h = holds_not_below (label b place n s i) (label b place n s (suc i)) in
      (λ q. (i, refl, h.0 q), λ w. let r : i ≡ w.0 = omega (arith, w.1) in h.1 (λ l. w.2 (rw (← r) l)))

  -- A zero, or a label that does not rise.
  pub holds_labels : (e : Edition) → Holds (labels_bad_of b place n e) (LabelsWrong b place n e)
  holds_labels one = (λ q. absurd (true≢false (sym q)), λ w. absurd (one≢two w.0))
  holds_labels two =
      let h = holds_pairs n (label_count b place) (λ s j. eqb (label b place n s j) 0 || label_falls b place n s j) (LabelWrong b place n two)
      (λ s j hs hj. holds_or (eqb (label b place n s j) 0) (label_falls b place n s j) (holds_equal (label b place n s j) 0) (holds_falls s j)) in
      (λ q. (refl, h.0 q), λ w. h.1 w.1)
