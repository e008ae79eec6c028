-- Lists of labels behind their counts, as edition 2 has them: lists that stand there are read, and where they are read they stand.
use mathlib.Core.Path.{◌≡◌, refl, sym, ap, ◌∙◌}
use mathlib.Core.List.{List, [], ◌∷◌, ◌++◌}
use Prim.Native.Nat.{ℕ, suc, ◌+◌, ◌*◌, ◌≤◌, ◌<◌}
use native.Mathlib.Omega.{arith}
use lib.ListN.{length, get_or, length-append}
use Rattle.paper.specs.Below.{sum, each, list}
use Rattle.paper.specs.Words.{number16, bytes16, all16, Bytes}
use Rattle.paper.specs.Labels.{two, label_count, label, labels_from}
use Rattle.paper.specs.Results.{label_bytes_of}
use Rattle.paper.proofs.Below.{each_same}
use Rattle.paper.proofs.Sums.{sum_same, sum-before}
use Rattle.paper.proofs.Lists.{length-list, get_or-list, list-get_or, all16-each}
use Rattle.paper.proofs.Labels.{Small}
use Rattle.trips.proofs.Spans.{Spans, spans_then, spans_move, spans_each, spans_part, length-each, peel}
use Rattle.trips.proofs.Numbers.{read_words, back-words, length-words}

module _ (n : ℕ) (labels : ℕ → List ℕ) where
  -- How many labels a state has.
  abbrev size : ℕ → ℕ
  size s = length (labels s)

  -- The bytes of the labels of a state.
  abbrev row : ℕ → List ℕ
  row s = each (size s) (λ j. bytes16 (get_or (labels s) j 0))

  -- The counts, and behind them the labels of each state.
  lists_rows : label_bytes_of two n labels ≡ each n (λ s. bytes16 (size s)) ++ each n row
  unfolding label_bytes_of
  lists_rows = ap (λ (l : List ℕ). each n (λ s. bytes16 (size s)) ++ l) (each_same n (λ s. all16 (labels s)) row (λ s hs. all16-each (labels s)))

  module _ (at : ℕ) where
    -- The place of the labels of a state.
    abbrev list_at_of : ℕ → ℕ
    list_at_of s = at + 2 * n + 2 * sum s size

    list_wide : (s : ℕ) → list_at_of s + length (row s) ≡ list_at_of (suc s)
    list_wide s = omega (arith, length-words (size s) (λ j. get_or (labels s) j 0))

  -- They take two bytes for each state and two for each label.
  pub length_lists : length (label_bytes_of two n labels) ≡ 2 * n + 2 * sum n size
  length_lists =
      omega (arith, ap length lists_rows, length-append (each n (λ s. bytes16 (size s))) (each n row), length-words n size, length-each row (list_at_of 0) (list_wide 0) n)

  module _ (b : List ℕ) (at : ℕ) where
    -- Lists that stand there are read there.
    module _ {z : ℕ} (h : Spans b at (label_bytes_of two n labels) z) (few : (s : ℕ) → s < n → size s < 65536) (small : (s : ℕ) → s < n → Small (labels s)) where
      cuts : (Spans b at (each n (λ s. bytes16 (size s))) (at + 2 * n)) × (Spans b (at + 2 * n) (each n row) z)
      cuts =
          let all : Spans b at (each n (λ s. bytes16 (size s)) ++ each n row) z = rw lists_rows at h in
          peel (each n (λ s. bytes16 (size s))) (each n row) (at + 2 * n) all (omega (arith, length-words n size))

      count_read : (s : ℕ) → s < n → label_count b at s ≡ size s
      unfolding label_count
      count_read s hs = read_words n size cuts.0 s hs (few s hs)

      label_read : (s j : ℕ) → s < n → j < size s → label b at n s j ≡ get_or (labels s) j 0
      unfolding label
      label_read s j hs hj =
          let e : at + 2 * n + 2 * (sum s (label_count b at) + j) ≡ list_at_of at s + 2 * j = omega (arith, sum_same s (label_count b at) size (λ r hr. count_read r (omega arith))) in
          ap (number16 b) e
          ∙ read_words (size s) (λ j. get_or (labels s) j 0) (spans_part row (list_at_of at) (list_wide at) n s (spans_move cuts.1 (omega arith) refl) hs) j hj (small s hs j)

      -- Each list is read there.
      pub read_lists : (s : ℕ) → s < n → labels_from b at n two s ≡ labels s
      unfolding labels_from
      read_lists s hs =
          ap (λ (c : ℕ). list c (label b at n s)) (count_read s hs)
          ∙ each_same (size s) (λ j. label b at n s j ∷ []) (λ j. get_or (labels s) j 0 ∷ []) (λ j hj. ap (λ (x : ℕ). x ∷ []) (label_read s j hs hj))
          ∙ list-get_or (labels s) 0

    -- Lists that are read there stand there.
    module _ (B : Bytes b) (long : at + 2 * n + 2 * sum n size ≤ length b) (q : (s : ℕ) → s < n → labels_from b at n two s ≡ labels s) where
      count-back : (s : ℕ) → s < n → label_count b at s ≡ size s
      unfolding labels_from
      count-back s hs = sym (length-list (label_count b at s) (label b at n s)) ∙ ap length (q s hs)

      label-back : (s j : ℕ) → s < n → j < size s → label b at n s j ≡ get_or (labels s) j 0
      unfolding labels_from
      label-back s j hs hj =
          sym (get_or-list (label_count b at s) j (label b at n s) 0 (omega (arith, count-back s hs))) ∙ ap (λ (l : List ℕ). get_or l j 0) (q s hs)

      number_back : (s j : ℕ) → s < n → j < size s → number16 b (list_at_of at s + 2 * j) ≡ get_or (labels s) j 0
      unfolding label
      number_back s j hs hj =
          let e : list_at_of at s + 2 * j ≡ at + 2 * n + 2 * (sum s (label_count b at) + j) = omega (arith, sum_same s (label_count b at) size (λ r hr. count-back r (omega arith))) in
          ap (number16 b) e ∙ label-back s j hs hj

      -- The counts and behind them all lists stand there.
      pub back_lists : Spans b at (label_bytes_of two n labels) (at + 2 * n + 2 * sum n size)
      unfolding label_count
      back_lists =
          let one : (s : ℕ) → s < n → Spans b (list_at_of at s) (row s) (list_at_of at (suc s)) = λ s hs.
          spans_move (back-words B (list_at_of at s) (size s) (λ j. get_or (labels s) j 0) (omega (arith, sum-before n s size hs)) (λ j hj. number_back s j hs hj)) refl (omega arith) in
          rw lists_rows
          (spans_then (back-words B at n size (omega arith) count-back) (spans_move (spans_each row (list_at_of at) n one) (omega arith) refl))
