-- The image of a view whose numbers have room in its bytes reads as what it was written from.
use mathlib.Core.Path.{◌≡◌, refl, sym, ap, ◌∙◌}
use mathlib.Core.List.{List, ◌++◌}
use mathlib.Core.Option.{some}
use Prim.Native.Nat.{ℕ, ◌+◌, ◌-◌, ◌*◌, ◌≤◌, ◌<◌}
use native.Mathlib.Nat.{mul-le-mul}
use native.Mathlib.Omega.{arith}
use lib.ListN.{length, take}
use Rattle.paper.specs.Words.{number16, number32, bytes16, bytes32, words, check_word_of}
use Rattle.paper.specs.Labels.{Edition, edition_of, states_in_word, first_word}
use Rattle.paper.specs.View.{View, depth_of, worst_hops}
use Rattle.paper.specs.Image as image
use Rattle.paper.specs.Image.{default_from_of, image_length_of}
use Rattle.paper.specs.Results.{default_number_of, labels_held_of, record_bytes, entry_bytes, front, trailer, image_of_view}
use Rattle.paper.proofs.Editions.{edition_read, states_read, word_small}
use Rattle.paper.proofs.Labels.{Small, labels_named, held_bound}
use Rattle.paper.proofs.Chain.{chain_short, depth_met}
use Rattle.paper.proofs.Look.{worst_le_depth}
use Rattle.facts.proofs.LabelFacts.{Labelled, most_16}
use Rattle.trips.proofs.Spans.{Spans, spans_move, spans_part, spans_take, peel}
use Rattle.trips.proofs.Numbers.{read16, read32, read_pair, read_bytes}
use Rattle.trips.proofs.Labels.{default-back}
use Rattle.trips.proofs.LabelBytes.{read_labels}
use Rattle.trips.proofs.ImageParts.{total, record_place, row_place, entry_place_of, end_place, check_place, entry, record_wide, entry_wide, row_wide, default_at, count_at, entry_at_lem, check_of, Placed, placed-parts, image_placed, image_length_lem}
use Rattle.trips.proofs.ImageReads.{Fits, ImageReads, total_bound}

-- The numbers of a front.
front_reads : (b : List ℕ) (e : Edition) (n k s d m z : ℕ) → Spans b 0 (front e n k s d m) z → n < 32768 → k < 65536 → s < 65536 → d < 65536
    → m < 4294967296 → (image.edition b ≡ e) × (image.states b ≡ n) × (image.classes b ≡ k) × (image.start b ≡ s) × (image.depth b ≡ d) × (image.entries b ≡ m)
unfolding front bytes16
front_reads b e n k s d m z h hn hk hs hd hm =
    let (p₀, q₀) = peel (bytes16 (first_word e n)) (bytes16 k ++ (bytes16 s ++ (bytes16 d ++ bytes32 m))) 2 h refl in
    let (p₁, q₁) = peel (bytes16 k) (bytes16 s ++ (bytes16 d ++ bytes32 m)) 4 q₀ refl in
    let (p₂, q₂) = peel (bytes16 s) (bytes16 d ++ bytes32 m) 6 q₁ refl in
    let (p₃, q₃) = peel (bytes16 d) (bytes32 m) 8 q₂ refl in
    let word = read16 (first_word e n) p₀ (word_small e n hn) in
    (ap edition_of word ∙ edition_read e n hn, ap states_in_word word ∙ states_read e n hn, read16 k p₁ hk, read16 s p₂ hs, read16 d p₃ hd, read32 m q₃ hm)

-- The numbers of a trailer.
trailer-reads : (b : List ℕ) (x n m l w z : ℕ) → Spans b x (trailer n m l w) z → 4 * m + 12 < 4294967296 → image_length_of n m l < 4294967296 → w < 65536
    → (number32 b x ≡ 4 * m + 12) × (number32 b (x + 4) ≡ image_length_of n m l) × (number16 b (x + 8) ≡ w)
unfolding trailer bytes32 bytes16
trailer-reads b x n m l w z h hd hl hw =
    let (p₀, q₀) = peel (bytes32 (4 * m + 12)) (bytes32 (image_length_of n m l) ++ bytes16 w) (x + 4) h refl in
    let (p₁, q₁) = peel (bytes32 (image_length_of n m l)) (bytes16 w) (x + 8) q₀ (omega arith) in
    (read32 (4 * m + 12) p₀ hd, read32 (image_length_of n m l) p₁ hl, read16 w q₁ hw)

-- The numbers of a view, with its start state and its labels, have room in the bytes of an image, whether the view is sound or not.
pub record Holds (e : Edition) (v : View) (start : ℕ) (class_of : ℕ → ℕ) (labels : ℕ → List ℕ) : Type 0 where
  pub few_states : v.states ≤ 512
  pub few_classes : v.classes < 65536
  pub begins : start < 65536
  pub all_labelled : (s : ℕ) → s < v.states → Labelled e (labels s)
  pub all_small : (s : ℕ) → s < v.states → Small (labels s)
  pub total_few : total v ≤ 33554432
  pub default_fits : (s d : ℕ) → s < v.states → v.default s ≡ some d → d < 65535
  pub count_fits : (s : ℕ) → s < v.states → v.count s < 65536
  pub class_fits : (s j : ℕ) → s < v.states → j < v.count s → v.entry_class s j < 65536
  pub next_fits : (s j : ℕ) → s < v.states → j < v.count s → v.entry_next s j < 65536
  pub deep : depth_of v < 65536
  pub far : worst_hops v class_of < 65536

module _ (e : Edition) (v : View) (start : ℕ) (class_of : ℕ → ℕ) (labels : ℕ → List ℕ) (F : Holds e v start class_of labels) where
  -- n, the number of states.
  abbrev n : ℕ
  n = v.states

  -- m, the number of entries.
  abbrev m : ℕ
  m = total v

  -- How many labels stand behind their counts.
  abbrev held : ℕ
  held = labels_held_of e n labels

  -- The image.
  abbrev i : List ℕ
  i = image_of_view e v start class_of labels

  P : Placed e v start class_of labels i
  P = (image_placed e v start class_of labels).0

  small : m ≤ 33554432
  small = F.total_few

  few : held ≤ 8192
  few = omega (arith, held_bound e n 16 labels (λ s hs. omega (arith, (F.all_labelled s hs).few, most_16 e)), F.few_states)

  long : length i ≡ image_length_of n m held
  long = image_length_lem e v start class_of labels

  fronts : (image.edition i ≡ e) × (image.states i ≡ n) × (image.classes i ≡ v.classes) × (image.start i ≡ start) × (image.depth i ≡ depth_of v) × (image.entries i ≡ m)
  fronts =
      front_reads i e n v.classes start (depth_of v) m 12 P.at_front
      (omega (arith, F.few_states)) F.few_classes F.begins F.deep (omega (arith, small))

  trailers : (image.distance_back i ≡ 4 * m + 12) × (image.whole_length i ≡ image_length_of n m held) × (image.worst i ≡ worst_hops v class_of)
  trailers =
      let x = end_place v held in
      let e₀ : length i - 12 ≡ x = omega (arith, long) in
      let e₁ : length i - 8 ≡ x + 4 = omega (arith, long) in
      let e₂ : length i - 4 ≡ x + 8 = omega (arith, long) in
      let (d, w, h) = trailer-reads i x n m held (worst_hops v class_of) (check_place v held) P.at_end
      (omega (arith, small)) (omega (arith, small, few, F.few_states)) F.far in
      (ap (number32 i) e₀ ∙ d, ap (number32 i) e₁ ∙ w, ap (number16 i) e₂ ∙ h)

  check_small : (ws : List ℕ) → check_word_of ws < 65536
  unfolding check_word_of
  check_small ws = omega arith

  checks : image.check i ≡ check_word_of (words (take (length i - 2) i))
  checks =
      let last : length i - 2 ≡ check_place v held = omega (arith, long) in
      ap (number16 i) last ∙ read16 (check_of e v start class_of labels) (image_placed e v start class_of labels).1 (check_small _)
      ∙ ap (λ (l : List ℕ). check_word_of (words l)) (sym (spans_take (placed-parts e v start class_of labels P) (omega (arith, long))))
      ∙ ap (λ (x : ℕ). check_word_of (words (take x i))) (sym last)

  -- The records and entries.
  record_reads : (s : ℕ) → s < n → (image.default i s ≡ v.default s) × (image.count i s ≡ v.count s)
  unfolding record_bytes
  record_reads s hs =
      let (_, N, _, _, _, M) = fronts in
      let (fits, back) = default-back (v.default s) (λ d q. F.default_fits s d hs q) in
      let (p, q) = read_pair (default_number_of (v.default s)) (v.count s)
      (spans_part (record_bytes v) (record_place v held) (record_wide v held) n s (spans_move P.at_records (omega arith) refl) hs)
      fits (F.count_fits s hs) in
      (default_at v held i long N M s ∙ ap default_from_of p ∙ back, count_at v held i long N M s ∙ q)

  place : (s j : ℕ) → s < n → image.entry_at i s j ≡ entry_place_of v held s j
  place s j hs = let (_, N, _, _, _, M) = fronts in entry_at_lem v held i long N M s j (λ r hr. (record_reads r (omega arith)).1)

  entry_reads : (s j : ℕ) → s < n → j < v.count s → (number16 i (image.entry_at i s j) ≡ v.entry_class s j) × (number16 i (image.entry_at i s j + 2) ≡ v.entry_next s j)
  unfolding entry_bytes
  entry_reads s j hs hj =
      let rows = spans_part (entry_bytes v) (row_place v held) (row_wide v held) n s (spans_move P.at_entries (omega arith) refl) hs in
      rw (place s j hs)
      (read_pair (v.entry_class s j) (v.entry_next s j) (spans_part (entry v s) (entry_place_of v held s) (entry_wide v held s) (v.count s) j (spans_move rows (omega arith) refl) hj)
      (F.class_fits s j hs hj) (F.next_fits s j hs hj))

  -- All that was written is read.
  pub held_reads : ImageReads e v start class_of labels i
  unfolding image.labels
  held_reads =
      let (E, N, K, A, D, M) = fronts in
      let (back, whole, far) = trailers in
      record {
        long = long;
        edition_is = E;
        start_is = A;
        depth_is = D;
        entries_are = M;
        class_is = read_bytes 256 class_of P.at_classes;
        labels_are = λ s hs. labels_named i 268 s N E ∙ read_labels 268 n labels e P.at_labels F.all_labelled F.all_small s hs;
        view_is =
            record {
              states_same = sym N;
              classes_same = sym K;
              default_same = λ s hs. sym (record_reads s hs).0;
              count_same = λ s hs. sym (record_reads s hs).1;
              class_same = λ s j hs hj. sym (entry_reads s j hs hj).0;
              next_same = λ s j hs hj. sym (entry_reads s j hs hj).1;
            };
        distance_is = back;
        whole_is = whole;
        worst_is = far;
        check_is = checks;
      }

-- The numbers of a view that fits have room.
fits_holds : {e : Edition} {v : View} {start : ℕ} {class_of : ℕ → ℕ} {labels : ℕ → List ℕ} → Fits e v start class_of labels → Holds e v start class_of labels
fits_holds {e} {v} {start} {class_of} {labels} F =
    let (s, hs, q) = depth_met v F.some_states F.right.ends in
    let deep = chain_short v v.states s (depth_of v) q in
    record {
      few_states = F.few_states;
      few_classes = omega (arith, F.few_classes);
      begins = omega (arith, F.begins, F.few_states);
      all_labelled = F.all_labelled;
      all_small = F.all_small;
      total_few = omega (arith, total_bound e v start class_of labels F, mul-le-mul F.few_states F.few_classes);
      default_fits = λ s d hs q. omega (arith, F.right.inside s d hs q, F.few_states);
      count_fits = λ s hs. omega (arith, F.right.few s hs, F.few_classes);
      class_fits = λ s j hs hj. omega (arith, F.right.class_below s j hs hj, F.few_classes);
      next_fits = λ s j hs hj. omega (arith, F.right.next_below s j hs hj, F.few_states);
      deep = omega (arith, deep, F.few_states);
      far = omega (arith, worst_le_depth v class_of F.right.ends, deep, F.few_states);
    }

-- So all that was written of it is read.
pub image_reads : (e : Edition) (v : View) (start : ℕ) (class_of : ℕ → ℕ) (labels : ℕ → List ℕ) → Fits e v start class_of labels → ImageReads e v start class_of labels (image_of_view e v start class_of labels)
image_reads e v start class_of labels F = held_reads e v start class_of labels (fits_holds F)
