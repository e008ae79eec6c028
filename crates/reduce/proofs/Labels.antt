-- The labels of the states left, as they are written in either edition.
use mathlib.Core.Path.{◌≡◌, refl, sym, ap, ◌∙◌}
use mathlib.Core.List.{List, ◌++◌}
use Prim.Native.Nat.{ℕ, ◌+◌, ◌*◌, ◌≤◌, ◌<◌}
use native.Mathlib.Omega.{arith}
use lib.ListN.{length, get_or, take, drop, length-append}
use Rattle.paper.specs.Below.{sum, each, list}
use Rattle.paper.specs.Words.{Bytes, number16, bytes16, all16}
use Rattle.paper.specs.Labels.{one, two, label_list, label_count, label, labels_from}
use Rattle.paper.specs.Table.{edition, states, labels}
use Rattle.paper.specs.Results.{label_number_of, label_bytes_of, labels_held_of}
use Rattle.paper.proofs.Below.{each_same}
use Rattle.paper.proofs.Lists.{length-list, get_or-list, all16-each}
use Rattle.facts.proofs.TableFacts.{AcceptedTable}
use Rattle.trips.proofs.Spans.{part_taken}
use Rattle.trips.proofs.Numbers.{back-words, length-words}
use Rattle.trips.proofs.Labels.{label_number}
use Rattle.trips.proofs.LabelBytes.{length-labels}
use Rattle.words.specs.Placed.{placed}
use Rattle.words.proofs.Behind.{placed-behind}
use Rattle.labels.specs.Tags.{Firsts}
use Rattle.naming.proofs.Labels.{labels-run, run_inside}
use Rattle.reduce.specs.Pieces.{tag_of, labels_of, list_of}

-- The words of a list of numbers, number by number.
words-each : (c : ℕ) (f : ℕ → ℕ) → all16 (list c f) ≡ each c (λ j. bytes16 (f j))
words-each c f =
    all16-each (list c f)
    ∙ ap (λ (n : ℕ). each n (λ j. bytes16 (get_or (list c f) j 0))) (length-list c f)
    ∙ each_same c (λ j. bytes16 (get_or (list c f) j 0)) (λ j. bytes16 (f j)) (λ j h. ap bytes16 (get_or-list c j f 0 h))

-- A number takes two bytes.
pub length_word : (x : ℕ) → length (bytes16 x) ≡ 2
unfolding bytes16
length_word x = refl

-- So does each of many.
pub length-all16 : (ls : List ℕ) → length (all16 ls) ≡ 2 * length ls
length-all16 ls = ap length (all16-each ls) ∙ length-words (length ls) (λ j. get_or ls j 0)

module _ (t : List ℕ) where
  -- In edition 1 the number of a state stands for its labels.
  pub one_labels : (x : ℕ) → edition t ≡ one → labels t x ≡ label_list (number16 t (262 + 2 * x))
  unfolding labels labels_from
  one_labels x h = rw h refl

  -- In edition 2 it says how many they are.
  pub two_count : (x : ℕ) → edition t ≡ two → length (labels t x) ≡ number16 t (262 + 2 * x)
  unfolding labels labels_from label_count
  two_count x h = rw h (length-list (number16 t (262 + 2 * x)) (label t 262 (states t) x))

  -- They are at most 16.
  pub two_few : (x : ℕ) → AcceptedTable t → x < states t → edition t ≡ two → number16 t (262 + 2 * x) ≤ 16
  two_few x A hx h = omega (arith, two_count x h, rw h at (A.all_labelled x hx).few)

  -- In edition 1 nothing is held behind the counts.
  pub held_one : (n : ℕ) (f : ℕ → List ℕ) → edition t ≡ one → labels_held_of (edition t) n f ≡ 0
  unfolding labels_held_of
  held_one n f h = rw h refl

  -- In edition 2 as many as the counts say.
  pub held_two : (n : ℕ) (f : ℕ → List ℕ) → edition t ≡ two → labels_held_of (edition t) n f ≡ sum n (λ s. length (f s))
  unfolding labels_held_of
  held_two n f h = rw h refl

  -- The labels of a state of edition 2, copied.
  pub list_copied : (firsts : List ℕ) (x count : ℕ) → Bytes t → AcceptedTable t → Firsts t 262 (states t) (edition t) firsts → x < states t → edition t ≡ two
      → count ≡ 2 * number16 t (262 + 2 * x) → take count (drop (262 + 2 * get_or firsts x 0) t) ≡ all16 (labels t x)
  list_copied firsts x count B A F hx h e =
      let from = 262 + 2 * get_or firsts x 0 in
      let tag = number16 t (262 + 2 * x) in
      let f : ℕ → ℕ = λ j. number16 t (from + 2 * j) in
      part_taken count (back-words {b = t} B from tag f (run_inside t firsts x A F hx h) (λ j hj. refl)) (omega (arith, length-words tag f))
      ∙ sym (words-each tag f)
      ∙ ap all16 (sym (labels-run t firsts F x tag hx h refl))

  module _ (old : List ℕ) (n : ℕ) where
    -- In edition 1 the numbers are the labels.
    pub tags_one : edition t ≡ one → each n (tag_of t old) ≡ label_bytes_of (edition t) n (labels_of t old)
    unfolding label_bytes_of
    tags_one h =
        each_same n (tag_of t old) (λ s. bytes16 (label_number_of (labels_of t old s)))
        (λ s hs. ap bytes16 (sym (ap label_number_of (one_labels (get_or old s 0) h) ∙ label_number (number16 t (262 + 2 * get_or old s 0)))))
        ∙ rw h refl

    -- In edition 2 they are the counts, and the lists stand behind them.
    pub tags_two : edition t ≡ two → each n (tag_of t old) ++ each n (list_of t old) ≡ label_bytes_of (edition t) n (labels_of t old)
    unfolding label_bytes_of
    tags_two h =
        ap (λ (l : List ℕ). l ++ each n (list_of t old))
        (each_same n (tag_of t old) (λ s. bytes16 (length (labels_of t old s))) (λ s hs. ap bytes16 (sym (two_count (get_or old s 0) h))))
        ∙ rw h refl

    -- The numbers take two bytes each.
    pub length_tags : length (each n (tag_of t old)) ≡ 2 * n
    length_tags = length-words n (λ s. number16 t (262 + 2 * get_or old s 0))

    -- The lists take two for each label held.
    pub length_held : edition t ≡ two → length (each n (list_of t old)) ≡ 2 * labels_held_of (edition t) n (labels_of t old)
    length_held h =
        omega (arith, ap length (tags_two h), length-append (each n (tag_of t old)) (each n (list_of t old)), length_tags, length-labels (edition t) n (labels_of t old))

    -- The lists put behind the counts are the labels in edition 2.
    pub labels_put : (r₀ r₁ r₂ : List ℕ) → edition t ≡ two → 262 + 2 * n ≤ length r₀ → r₁ ≡ placed r₀ 262 (each n (tag_of t old)) → r₂ ≡ placed r₁ (262 + 2 * n) (each n (list_of t old))
        → r₂ ≡ placed r₀ 262 (label_bytes_of (edition t) n (labels_of t old))
    labels_put r₀ r₁ r₂ h fits e₁ e₂ =
        placed-behind r₀ r₁ r₂ (each n (tag_of t old)) (each n (list_of t old)) 262 (262 + 2 * n) (omega (arith, length_tags)) (omega arith) e₁ e₂
        ∙ ap (placed r₀ 262) (tags_two h)
