-- The bytes of a table: what they were made from is read of them, and what is read of them makes them.
use mathlib.Core.Path.{◌≡◌, refl, sym, ap, ap₂, ◌∙◌}
use mathlib.Core.List.{List, ◌++◌}
use Prim.Native.Nat.{ℕ, suc, ◌+◌, ◌-◌, ◌*◌, ◌<◌}
use native.Mathlib.Nat.{mul-le-mul, le_refl}
use native.Mathlib.Omega.{arith}
use lib.ListN.{length, length-append}
use Rattle.paper.specs.Below.{each, list}
use Rattle.paper.specs.Words.{number16, bytes16, Bytes}
use Rattle.paper.specs.Labels.{Edition, edition_of, states_in_word, first_word}
use Rattle.paper.specs.Table as table
use Rattle.paper.specs.Table.{table_length}
use Rattle.paper.specs.Results.{label_bytes_of, labels_held_of, table_from}
use Rattle.paper.proofs.Words.{number16_below}
use Rattle.paper.proofs.Editions.{edition_read, states_read, word_small, word_back}
use Rattle.paper.proofs.Labels.{Small, labels_named}
use Rattle.facts.proofs.LabelFacts.{Labelled}
use Rattle.trips.proofs.Spans.{Spans, spans_all, spans_whole, spans_then, spans_move, spans_each, spans_part, length-each, peel}
use Rattle.trips.proofs.Numbers.{read16, read_bytes, read_words, back16, back_bytes, back-words, length_bytes, length-words}
use Rattle.trips.proofs.LabelBytes.{read_labels, back-labels, length-labels}

module _ (e : Edition) (n k a : ℕ) (class_of : ℕ → ℕ) (labels : ℕ → List ℕ) (next : ℕ → ℕ → ℕ) where
  -- How many labels stand behind their counts.
  abbrev held : ℕ
  held = labels_held_of e n labels

  -- The edition and these numbers are read of t.
  pub record TableReads (t : List ℕ) : Type 0 where
    pub long : length t ≡ table_length n k held
    pub edition_is : table.edition t ≡ e
    pub states_is : table.states t ≡ n
    pub classes_is : table.classes t ≡ k
    pub start_is : table.start t ≡ a
    pub class_is : (x : ℕ) → x < 256 → table.class_of t x ≡ class_of x
    pub labels_are : (s : ℕ) → s < n → table.labels t s ≡ labels s
    pub next_is : (s c : ℕ) → s < n → c < k → table.next t s c ≡ next s c

  -- The row of a state.
  abbrev row : ℕ → List ℕ
  row s = each k (λ c. bytes16 (next s c))

  -- The place of the row of a state.
  abbrev row_at : ℕ → ℕ
  row_at s = 262 + 2 * n + 2 * held + 2 * (s * k)

  row_wide : (s : ℕ) → row_at s + length (row s) ≡ row_at (suc s)
  row_wide s = omega (arith, length-words k (next s))

  -- The table made from them.
  abbrev made : List ℕ
  made = table_from e n k a class_of labels next

  -- The parts stand in t.
  record Placed (t : List ℕ) : Type 0 where
    at_states : Spans t 0 (bytes16 (first_word e n)) 2
    at_classes : Spans t 2 (bytes16 k) 4
    at_start : Spans t 4 (bytes16 a) 6
    at_class : Spans t 6 (list 256 class_of) 262
    at_labels : Spans t 262 (label_bytes_of e n labels) (262 + 2 * n + 2 * held)
    at_rows : Spans t (262 + 2 * n + 2 * held) (each n row) (length t)

  made_placed : Placed made
  unfolding table_from bytes16
  made_placed =
      let rows = each n row in
      let (p₁, r₁) = peel (bytes16 (first_word e n)) (bytes16 k ++ (bytes16 a ++ (list 256 class_of ++ (label_bytes_of e n labels ++ rows)))) 2 (spans_all made) refl in
      let (p₂, r₂) = peel (bytes16 k) (bytes16 a ++ (list 256 class_of ++ (label_bytes_of e n labels ++ rows))) 4 r₁ refl in
      let (p₃, r₃) = peel (bytes16 a) (list 256 class_of ++ (label_bytes_of e n labels ++ rows)) 6 r₂ refl in
      let (p₄, r₄) = peel (list 256 class_of) (label_bytes_of e n labels ++ rows) 262 r₃ (omega (arith, length_bytes 256 class_of)) in
      let (p₅, r₅) = peel (label_bytes_of e n labels) rows (262 + 2 * n + 2 * held) r₄ (omega (arith, length-labels e n labels)) in
      record { at_states = p₁; at_classes = p₂; at_start = p₃; at_class = p₄; at_labels = p₅; at_rows = r₅ }

  -- A table is as long as its counts say.
  pub made_length : length made ≡ table_length n k held
  unfolding table_from bytes16
  made_length =
      let rows = each n row in
      omega (arith, length-append (list 256 class_of) (label_bytes_of e n labels ++ rows), length_bytes 256 class_of, length-append (label_bytes_of e n labels) rows, length-labels e n labels, length-each row row_at row_wide n)

  -- Numbers that 16 bits hold are read of the table made from them.
  pub made_reads : n < 32768 → k < 65536 → a < 65536 → ((s : ℕ) → s < n → Labelled e (labels s)) → ((s : ℕ) → s < n → Small (labels s)) → ((s c : ℕ) → s < n → c < k → next s c < 65536) → TableReads made
  unfolding table.labels table.next
  made_reads hn hk ha hl hm hx =
      let P = made_placed in
      let word = read16 (first_word e n) P.at_states (word_small e n hn) in
      let E : table.edition made ≡ e = ap edition_of word ∙ edition_read e n hn in
      let N : table.states made ≡ n = ap states_in_word word ∙ states_read e n hn in
      let K = read16 k P.at_classes hk in
      record {
        long = made_length;
        edition_is = E;
        states_is = N;
        classes_is = K;
        start_is = read16 a P.at_start ha;
        class_is = read_bytes 256 class_of P.at_class;
        labels_are = λ s hs. labels_named made 262 s N E ∙ read_labels 262 n labels e P.at_labels hl hm s hs;
        next_is = λ s c hs hc.
            let e : length made - 2 * (n * k) + 2 * (s * k + c) ≡ row_at s + 2 * c = omega (arith, made_length) in
            ap₂ (λ (x y : ℕ). number16 made (length made - 2 * (x * y) + 2 * (s * y + c))) N K ∙ ap (number16 made) e
            ∙ read_words k (next s) (spans_part row row_at row_wide n s (spans_move P.at_rows (omega arith) refl) hs) c hc (hx s c hs hc);
      }

  -- Bytes of which numbers are read are the table made from these.
  pub table_back : (t : List ℕ) → Bytes t → TableReads t → made ≡ t
  unfolding table_from table.labels table.next
  table_back t B R =
      let L = R.long in
      let at : (s c : ℕ) → s < n → c < k → number16 t (row_at s + 2 * c) ≡ next s c = λ s c hs hc.
      let e : row_at s + 2 * c ≡ length t - 2 * (n * k) + 2 * (s * k + c) = omega arith in
      ap (number16 t) e ∙ sym (ap₂ (λ (x y : ℕ). number16 t (length t - 2 * (x * y) + 2 * (s * y + c))) R.states_is R.classes_is) ∙ R.next_is s c hs hc in
      let one : (s : ℕ) → s < n → Spans t (row_at s) (row s) (row_at (suc s)) = λ s hs.
      spans_move (back-words B (row_at s) k (next s) (omega (arith, mul-le-mul hs (le_refl k))) (λ c hc. at s c hs hc)) refl (omega arith) in
      sym (spans_whole
      (spans_then (back16 B 0 2 refl (omega arith) (word_back (number16 t 0) e n (number16_below t 0 B) R.edition_is R.states_is))
      (spans_then (back16 B 2 4 refl (omega arith) R.classes_is)
      (spans_then (back16 B 4 6 refl (omega arith) R.start_is)
      (spans_then (back_bytes 6 256 class_of (omega arith) R.class_is)
      (spans_then (back-labels 262 n labels e B (omega arith) (λ s hs. sym (labels_named t 262 s R.states_is R.edition_is) ∙ R.labels_are s hs))
      (spans_move (spans_each row row_at n one) (omega arith) (omega arith))))))))
