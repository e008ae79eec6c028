-- The labels of all states in a list of bytes, in both editions: labels that stand there are read, and where they are read they stand.
use mathlib.Core.Path.{◌≡◌, refl, sym, ap, ◌∙◌}
use mathlib.Core.List.{List}
use Prim.Native.Nat.{ℕ, ◌+◌, ◌*◌, ◌≤◌, ◌<◌}
use native.Mathlib.Omega.{arith}
use lib.ListN.{length}
use Rattle.paper.specs.Words.{number16, Bytes}
use Rattle.paper.specs.Labels.{Edition, one, two, label_list, labels_from}
use Rattle.paper.specs.Results.{label_number_of, label_bytes_of, labels_held_of}
use Rattle.paper.proofs.Labels.{Small}
use Rattle.facts.proofs.LabelFacts.{Labelled}
use Rattle.trips.proofs.Spans.{Spans, spans_move}
use Rattle.trips.proofs.Numbers.{read_words, back-words, length-words}
use Rattle.trips.proofs.Labels.{label_number, label-back, label_small}
use Rattle.trips.proofs.LabelLists.{length_lists, read_lists, back_lists}

-- They take two bytes for each state, and two for each label behind the counts.
pub length-labels : (e : Edition) (n : ℕ) (labels : ℕ → List ℕ) → length (label_bytes_of e n labels) ≡ 2 * n + 2 * labels_held_of e n labels
unfolding label_bytes_of labels_held_of
length-labels one n labels = omega (arith, length-words n (λ s. label_number_of (labels s)))
length-labels two n labels = length_lists n labels

module _ {b : List ℕ} (at n : ℕ) (labels : ℕ → List ℕ) where
  -- Labels that stand there are read there.
  pub read_labels : (e : Edition) {z : ℕ} → Spans b at (label_bytes_of e n labels) z → ((s : ℕ) → s < n → Labelled e (labels s)) → ((s : ℕ) → s < n → Small (labels s))
      → (s : ℕ) → s < n → labels_from b at n e s ≡ labels s
  unfolding label_bytes_of labels_from
  read_labels one h L S s hs = ap label_list (read_words n (λ s. label_number_of (labels s)) h s hs (label_small (labels s) (S s hs))) ∙ label-back (labels s) (L s hs)
  read_labels two h L S s hs = read_lists n labels b at h (λ s hs. omega (arith, (L s hs).few)) S s hs

  -- Labels that are read there stand there.
  pub back-labels : (e : Edition) → Bytes b → at + 2 * n + 2 * labels_held_of e n labels ≤ length b → ((s : ℕ) → s < n → labels_from b at n e s ≡ labels s)
      → Spans b at (label_bytes_of e n labels) (at + 2 * n + 2 * labels_held_of e n labels)
  unfolding label_bytes_of labels_from labels_held_of
  back-labels one B h q =
      spans_move (back-words B at n (λ s. label_number_of (labels s)) (omega arith) (λ s hs. sym (label_number (number16 b (at + 2 * s))) ∙ ap label_number_of (q s hs))) refl (omega arith)
  back-labels two B h q = back_lists n labels b at B h q
