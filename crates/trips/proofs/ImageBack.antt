-- Bytes that read as the image of a view are that image.
use mathlib.Core.Path.{◌≡◌, refl, sym, ap, ◌∙◌}
use mathlib.Core.List.{List}
use Prim.Native.Nat.{ℕ, suc, ◌+◌, ◌-◌, ◌*◌, ◌<◌}
use native.Mathlib.Omega.{arith}
use lib.ListN.{length, take}
use Rattle.paper.specs.Words.{number16, number32, words, check_word_of, Bytes}
use Rattle.paper.specs.Labels.{Edition}
use Rattle.paper.specs.View.{View, depth_of, worst_hops}
use Rattle.paper.specs.Image as image
use Rattle.paper.specs.Image.{image_view}
use Rattle.paper.specs.Results.{default_number_of, labels_held_of, record_bytes, entry_bytes, front, trailer, image_of_view}
use Rattle.paper.proofs.Sums.{sum-before}
use Rattle.paper.proofs.Words.{number16_below}
use Rattle.paper.proofs.Editions.{word_back}
use Rattle.paper.proofs.Labels.{labels_named}
use Rattle.trips.proofs.Spans.{Spans, spans_then, spans_move, spans_each, spans_take}
use Rattle.trips.proofs.Numbers.{back16, back32, back_pair, back_bytes}
use Rattle.trips.proofs.Labels.{default_number}
use Rattle.trips.proofs.LabelBytes.{back-labels}
use Rattle.trips.proofs.Agree.{Agree}
use Rattle.trips.proofs.ImageParts.{total, record_place, row_place, entry_place_of, end_place, check_place, entry, default_at, count_at, entry_at_lem, Placed, Sealed, placed-parts, placed_image}
use Rattle.trips.proofs.ImageReads.{ImageReads}

module _ (e : Edition) (v : View) (start : ℕ) (class_of : ℕ → ℕ) (labels : ℕ → List ℕ) (b : List ℕ) (B : Bytes b) (R : ImageReads e v start class_of labels b) where
  -- n, the number of states.
  abbrev n : ℕ
  n = v.states

  -- m, the number of entries.
  abbrev m : ℕ
  m = total v

  -- How many labels stand behind their counts.
  abbrev held : ℕ
  held = labels_held_of e n labels

  S : Agree v (image_view b)
  S = R.view_is

  N : image.states b ≡ n
  N = sym S.states_same

  long : length b ≡ 280 + 6 * n + 2 * held + 4 * m
  long = R.long

  front-back : Spans b 0 (front e n v.classes start (depth_of v) m) 12
  unfolding front
  front-back =
      let L = long in
      spans_then (back16 B 0 2 refl (omega arith) (word_back (number16 b 0) e n (number16_below b 0 B) R.edition_is N))
      (spans_then (back16 B 2 4 refl (omega arith) (sym S.classes_same))
      (spans_then (back16 B 4 6 refl (omega arith) R.start_is)
      (spans_then (back16 B 6 8 refl (omega arith) R.depth_is) (back32 B 8 12 refl (omega arith) R.entries_are))))

  record_back : (s : ℕ) → s < n → Spans b (record_place v held s) (record_bytes v s) (record_place v held (suc s))
  unfolding record_bytes
  record_back s hs =
      let x = record_place v held s in
      back_pair B x (record_place v held (suc s)) (omega arith) (omega (arith, long))
      (sym (default_number (number16 b x)) ∙ ap default_number_of (sym (default_at v held b long N R.entries_are s) ∙ sym (S.default_same s hs)))
      (sym (count_at v held b long N R.entries_are s) ∙ sym (S.count_same s hs))

  entry_back : (s j : ℕ) → s < n → j < v.count s → Spans b (entry_place_of v held s j) (entry v s j) (entry_place_of v held s (suc j))
  entry_back s j hs hj =
      let e = entry_at_lem v held b long N R.entries_are s j (λ r hr. sym (S.count_same r (omega arith))) in
      back_pair B (entry_place_of v held s j) (entry_place_of v held s (suc j)) (omega arith) (omega (arith, long, sum-before n s v.count hs))
      (ap (number16 b) (sym e) ∙ sym (S.class_same s j hs hj))
      (ap (λ (x : ℕ). number16 b (x + 2)) (sym e) ∙ sym (S.next_same s j hs hj))

  row_back : (s : ℕ) → s < n → Spans b (row_place v held s) (entry_bytes v s) (row_place v held (suc s))
  unfolding entry_bytes
  row_back s hs = spans_move (spans_each (entry v s) (entry_place_of v held s) (v.count s) (λ j hj. entry_back s j hs hj)) (omega arith) (omega arith)

  trailer-back : Spans b (end_place v held) (trailer n m held (worst_hops v class_of)) (check_place v held)
  unfolding trailer
  trailer-back =
      let x = end_place v held in
      let e₀ : x ≡ length b - 12 = omega (arith, long) in
      let e₁ : x + 4 ≡ length b - 8 = omega (arith, long) in
      let e₂ : x + 8 ≡ length b - 4 = omega (arith, long) in
      spans_then (back32 B x (x + 4) refl (omega (arith, long)) (ap (number32 b) e₀ ∙ R.distance_is))
      (spans_then (back32 B (x + 4) (x + 8) (omega arith) (omega (arith, long)) (ap (number32 b) e₁ ∙ R.whole_is))
      (back16 B (x + 8) (check_place v held) (omega arith) (omega (arith, long)) (ap (number16 b) e₂ ∙ R.worst_is)))

  placed : Placed e v start class_of labels b
  unfolding image.labels
  placed =
      record {
        at_front = front-back;
        at_classes = back_bytes 12 256 class_of (omega (arith, long)) R.class_is;
        at_labels = back-labels 268 n labels e B (omega (arith, long)) (λ s hs. sym (labels_named b 268 s N R.edition_is) ∙ R.labels_are s hs);
        at_records = spans_move (spans_each (record_bytes v) (record_place v held) n record_back) (omega arith) (omega arith);
        at_entries = spans_move (spans_each (entry_bytes v) (row_place v held) n row_back) (omega arith) refl;
        at_end = trailer-back;
      }

  -- The check word is over the same bytes.
  sealed : Sealed e v start class_of labels b
  sealed =
      let x = check_place v held in
      let last : x ≡ length b - 2 = omega (arith, long) in
      back16 B x (length b) (omega (arith, long)) (omega arith)
      (ap (number16 b) last ∙ R.check_is ∙ ap (λ (y : ℕ). check_word_of (words (take y b))) (sym last)
      ∙ ap (λ (l : List ℕ). check_word_of (words l)) (spans_take (placed-parts e v start class_of labels placed) (omega (arith, long))))

  -- So all parts stand in their places, and nothing else.
  pub image_back : image_of_view e v start class_of labels ≡ b
  image_back = placed_image e v start class_of labels placed sealed
