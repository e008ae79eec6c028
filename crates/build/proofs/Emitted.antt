-- The parts of an image, written one behind the other with the check word last, are the image of the table with its defaults.
use mathlib.Core.Path.{◌≡◌, ap, ◌∙◌}
use mathlib.Core.List.{List}
use Prim.Native.Nat.{ℕ, ◌+◌, ◌*◌, ◌≤◌}
use native.Mathlib.Omega.{arith}
use lib.ListN.{length, take}
use Rattle.paper.specs.Below.{each}
use Rattle.paper.specs.Words.{bytes16, words, check_word_of}
use Rattle.paper.specs.Table.{edition, states, classes, start, class_of, labels}
use Rattle.paper.specs.View.{depth_of, worst_hops}
use Rattle.paper.specs.Image.{image_length_of}
use Rattle.paper.specs.Results.{front, trailer, image_of}
use Rattle.paper.specs.Operations.{filled}
use Rattle.words.specs.Placed.{placed}
use Rattle.ending.proofs.Written.{Counted, written}
use Rattle.tally.specs.Owned.{list_view}
use Rattle.build.specs.Pieces.{classes_and_labels, listed_record, kept_row}
use Rattle.build.specs.Measured.{list_image_of, Measured}
use Rattle.build.proofs.Counted.{total_are, labels_held, records_are, entries_are, length-entries}

module _ {t : List ℕ} {n k held : ℕ} {def counts : List ℕ} {m : ℕ} (M : Measured t n k held def counts m) {depth worst : ℕ} (D : depth ≡ depth_of (list_view t def))
    (W : worst ≡ worst_hops (list_view t def) (class_of t)) where
  -- Written in their order, with the check word of what stands before it, the parts are the image.
  pub emitted : (r₀ r₁ r₂ r₃ r₄ r₅ r₆ : List ℕ) (end : ℕ) → image_length_of n m held ≤ length r₀ → r₁ ≡ placed r₀ 0 (front (edition t) (states t) (classes t) (start t) depth m)
      → r₂ ≡ placed r₁ 12 (classes_and_labels t) → r₃ ≡ placed r₂ (268 + 2 * n + 2 * held) (each n (listed_record def counts))
      → (end ≡ 268 + 6 * n + 2 * held + length (each n (kept_row t k def))) × (r₄ ≡ placed r₃ (268 + 6 * n + 2 * held) (each n (kept_row t k def)))
      → r₅ ≡ placed r₄ end (trailer n m held worst) → r₆ ≡ placed r₅ (end + 10) (bytes16 (check_word_of (words (take (end + 10) r₅))))
      → r₆ ≡ filled (list_image_of t def) r₀
  unfolding image_of classes_and_labels
  emitted r₀ r₁ r₂ r₃ r₄ r₅ r₆ end fits e₁ e₂ e₃ (far, e₄) e₅ e₆ =
      let C : Counted (edition t) (list_view t def) (class_of t) (labels t) n m held depth worst =
      record { states_are = M.states_are; entries_are = total_are M; held_are = labels_held M; depth_is = D; worst_is = W } in
      written (edition t) (list_view t def) (start t) (class_of t) (labels t) C r₀ r₁ r₂ r₃ r₄ r₅ r₆ end fits e₁ e₂
      (e₃ ∙ ap (placed r₂ (268 + 2 * n + 2 * held)) (records_are M)) (omega (arith, far, length-entries M)) (e₄ ∙ ap (placed r₃ (268 + 6 * n + 2 * held)) (entries_are M)) e₅ e₆
