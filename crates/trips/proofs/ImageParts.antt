-- The parts of the image of a view: their places, that they stand there, and that what stands there is the image.
use mathlib.Core.Path.{◌≡◌, refl, sym, ap}
use mathlib.Core.List.{List, ◌++◌}
use Prim.Native.Nat.{ℕ, suc, ◌+◌, ◌*◌, ◌<◌}
use native.Mathlib.Omega.{arith}
use lib.ListN.{length}
use Rattle.paper.specs.Below.{each, list, sum}
use Rattle.paper.specs.Words.{number16, bytes16, bytes32, words, check_word_of}
use Rattle.paper.specs.Labels.{Edition}
use Rattle.paper.specs.View.{View, depth_of, worst_hops}
use Rattle.paper.specs.Image as image
use Rattle.paper.specs.Image.{default_from_of, image_length_of}
use Rattle.paper.specs.Results.{label_bytes_of, labels_held_of, record_bytes, entry_bytes, front, trailer, parts, image_of_view}
use Rattle.paper.proofs.Sums.{sum_same}
use Rattle.trips.proofs.Spans.{Spans, spans_all, spans_whole, spans_then, spans_long, length-each, peel}
use Rattle.trips.proofs.Numbers.{length_bytes}
use Rattle.trips.proofs.LabelBytes.{length-labels}

-- m, the number of all entries of a view.
abbrev pub total : View → ℕ
total v = sum v.states v.count

-- The bytes of an entry.
abbrev pub entry : View → ℕ → ℕ → List ℕ
entry v s j = bytes16 (v.entry_class s j) ++ bytes16 (v.entry_next s j)

-- A view, and how many labels stand behind their counts.
module _ (v : View) (held : ℕ) where
  -- The place of the record of a state.
  abbrev pub record_place : ℕ → ℕ
  record_place s = 268 + 2 * v.states + 2 * held + 4 * s

  -- The place of the first entry of a state.
  abbrev pub row_place : ℕ → ℕ
  row_place s = 268 + 6 * v.states + 2 * held + 4 * sum s v.count

  -- The place of an entry of a state.
  abbrev pub entry_place_of : ℕ → ℕ → ℕ
  entry_place_of s j = 268 + 6 * v.states + 2 * held + 4 * (sum s v.count + j)

  -- The place where the entries end and the trailer begins.
  abbrev pub end_place : ℕ
  end_place = 268 + 6 * v.states + 2 * held + 4 * total v

  -- The place of the check word.
  abbrev pub check_place : ℕ
  check_place = 278 + 6 * v.states + 2 * held + 4 * total v

  -- A record ends where the next begins.
  pub record_wide : (s : ℕ) → record_place s + length (record_bytes v s) ≡ record_place (suc s)
  unfolding record_bytes bytes16
  record_wide s = omega arith

  -- An entry ends where the next begins.
  pub entry_wide : (s j : ℕ) → entry_place_of s j + length (entry v s j) ≡ entry_place_of s (suc j)
  unfolding bytes16
  entry_wide s j = omega arith

  -- The entries of a state end where those of the next state begin.
  pub row_wide : (s : ℕ) → row_place s + length (entry_bytes v s) ≡ row_place (suc s)
  unfolding entry_bytes
  row_wide s = omega (arith, length-each (entry v s) (entry_place_of s) (entry_wide s) (v.count s))

  -- A list as long as these say, with as many states and entries.
  module _ (b : List ℕ) (long : length b ≡ image_length_of v.states (total v) held) (N : image.states b ≡ v.states) (M : image.entries b ≡ total v) where
    records_at_lem : image.records_at_of b ≡ 268 + 2 * v.states + 2 * held
    records_at_lem = omega arith

    -- Its defaults are read in its records.
    pub default_at : (s : ℕ) → image.default b s ≡ default_from_of (number16 b (record_place s))
    unfolding image.default
    default_at s = ap (λ (x : ℕ). default_from_of (number16 b (x + 4 * s))) records_at_lem

    -- Its counts are read there too.
    pub count_at : (s : ℕ) → image.count b s ≡ number16 b (record_place s + 2)
    unfolding image.count
    count_at s = ap (λ (x : ℕ). number16 b (x + 4 * s + 2)) records_at_lem

    -- Where its counts are the view's, its entries are read in the entries' places.
    pub entry_at_lem : (s j : ℕ) → ((r : ℕ) → r < s → image.count b r ≡ v.count r) → image.entry_at b s j ≡ entry_place_of s j
    unfolding image.entry_at
    entry_at_lem s j h = omega (arith, sum_same s (image.count b) v.count h)

module _ (e : Edition) (v : View) (start : ℕ) (class_of : ℕ → ℕ) (labels : ℕ → List ℕ) where
  -- How many labels stand behind their counts.
  abbrev held : ℕ
  held = labels_held_of e v.states labels

  -- What ends the image, but for the check word.
  abbrev pub end : List ℕ
  end = trailer v.states (total v) held (worst_hops v class_of)

  -- The check word.
  abbrev pub check_of : ℕ
  check_of = check_word_of (words (parts e v start class_of labels end))

  -- The parts stand in b, each in its place.
  pub record Placed (b : List ℕ) : Type 0 where
    pub at_front : Spans b 0 (front e v.states v.classes start (depth_of v) (total v)) 12
    pub at_classes : Spans b 12 (list 256 class_of) 268
    pub at_labels : Spans b 268 (label_bytes_of e v.states labels) (268 + 2 * v.states + 2 * held)
    pub at_records : Spans b (268 + 2 * v.states + 2 * held) (each v.states (record_bytes v)) (268 + 6 * v.states + 2 * held)
    pub at_entries : Spans b (268 + 6 * v.states + 2 * held) (each v.states (entry_bytes v)) (end_place v held)
    pub at_end : Spans b (end_place v held) end (check_place v held)

  -- The check word stands behind them.
  abbrev pub Sealed : List ℕ → Type 0
  Sealed b = Spans b (check_place v held) (bytes16 check_of) (length b)

  parts_then : {b ending : List ℕ} {z : ℕ} → Placed b → Spans b (end_place v held) ending z → Spans b 0 (parts e v start class_of labels ending) z
  unfolding parts
  parts_then P h = spans_then P.at_front (spans_then P.at_classes (spans_then P.at_labels (spans_then P.at_records (spans_then P.at_entries h))))

  -- Together they are what the check word is over.
  pub placed-parts : {b : List ℕ} → Placed b → Spans b 0 (parts e v start class_of labels end) (check_place v held)
  placed-parts P = parts_then P P.at_end

  -- With the check word they are the image.
  pub placed_image : {b : List ℕ} → Placed b → Sealed b → image_of_view e v start class_of labels ≡ b
  unfolding image_of_view
  placed_image P h = sym (spans_whole (parts_then P (spans_then P.at_end h)))

  -- They stand in the image.
  pub image_placed : Placed (image_of_view e v start class_of labels) × Sealed (image_of_view e v start class_of labels)
  unfolding image_of_view parts front trailer bytes32 bytes16
  image_placed =
      let n = v.states in
      let f = front e n v.classes start (depth_of v) (total v) in
      let cs = list 256 class_of in
      let ls = label_bytes_of e n labels in
      let rs = each n (record_bytes v) in
      let es = each n (entry_bytes v) in
      let check = bytes16 check_of in
      let (p₀, q₀) = peel f (cs ++ (ls ++ (rs ++ (es ++ (end ++ check))))) 12 (spans_all (image_of_view e v start class_of labels)) refl in
      let (p₁, q₁) = peel cs (ls ++ (rs ++ (es ++ (end ++ check)))) 268 q₀ (omega (arith, length_bytes 256 class_of)) in
      let (p₂, q₂) = peel ls (rs ++ (es ++ (end ++ check))) (268 + 2 * n + 2 * held) q₁ (omega (arith, length-labels e n labels)) in
      let (p₃, q₃) = peel rs (es ++ (end ++ check)) (268 + 6 * n + 2 * held) q₂ (omega (arith, length-each (record_bytes v) (record_place v held) (record_wide v held) n)) in
      let (p₄, q₄) = peel es (end ++ check) (end_place v held) q₃ (omega (arith, length-each (entry_bytes v) (row_place v held) (row_wide v held) n)) in
      let (p₅, q₅) = peel end check (check_place v held) q₄ (omega arith) in
      (record { at_front = p₀; at_classes = p₁; at_labels = p₂; at_records = p₃; at_entries = p₄; at_end = p₅ }, q₅)

  -- The image is as long as its counts say.
  pub image_length_lem : length (image_of_view e v start class_of labels) ≡ image_length_of v.states (total v) held
  unfolding bytes16
  image_length_lem = omega (arith, spans_long image_placed.1 (omega arith))
