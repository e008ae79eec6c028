-- The parts of an image with a patch, written one behind the other, are the image with the patch applied.
use mathlib.Core.Path.{◌≡◌, ap, ◌∙◌}
use mathlib.Core.List.{List}
use Prim.Native.Nat.{ℕ, ◌+◌, ◌*◌, ◌≤◌}
use native.Mathlib.Omega.{arith}
use lib.ListN.{length, take, drop}
use Rattle.paper.specs.Below.{each, sum}
use Rattle.paper.specs.Words.{Bytes, bytes16, words, check_word_of}
use Rattle.paper.specs.Image as image
use Rattle.paper.specs.Image.{image_length_of}
use Rattle.paper.specs.Results.{record_bytes, entry_bytes, front, trailer}
use Rattle.paper.specs.Operations.{filled}
use Rattle.paper.specs.Patch.{patched_view, applied}
use Rattle.facts.proofs.ImageFacts.{image_few_labels}
use Rattle.facts.proofs.PatchFacts.{AcceptedPatch}
use Rattle.words.specs.Placed.{placed}
use Rattle.ending.proofs.Written.{Counted, written}
use Rattle.apply.specs.Setting.{Fitting}
use Rattle.apply.proofs.Named.{held_same, named_stand}
use Rattle.apply.proofs.Sizes.{total_few}

module _ {b x : List ℕ} {n held total depth worst : ℕ} (A : AcceptedPatch b x) (N : n ≡ image.states b) (F : Fitting b x n held total depth worst) where
  -- The numbers are small.
  pub small : (n ≤ 512) × (held ≤ 8192) × (total ≤ 131072)
  small = (
    omega (arith, A.accepted.few_states),
    omega (arith, F.held_are, image_few_labels b A.accepted),
    omega (arith, F.total_is, ap (λ (k : ℕ). sum k (patched_view b x).count) N, total_few A),
  )

  -- The image is as long as its labels and more.
  pub long : 280 + 6 * n + 2 * held ≤ length b
  long = omega (arith, A.accepted.long, F.held_are)

  -- Written in their order, with the check word of what stands before it, they are the image with the patch applied.
  pub applied-filled : Bytes b → (r₀ r₁ r₂ r₃ r₄ r₅ r₆ : List ℕ) (at : ℕ) → image_length_of n total held ≤ length r₀
      → r₁ ≡ placed r₀ 0 (front (image.edition b) (image.states b) (image.classes b) (image.start b) depth total)
      → r₂ ≡ placed r₁ 12 (take (256 + 2 * n + 2 * held) (drop 12 b)) → r₃ ≡ placed r₂ (268 + 2 * n + 2 * held) (each n (record_bytes (patched_view b x)))
      → at ≡ 268 + 6 * n + 2 * held + 4 * sum n (patched_view b x).count → r₄ ≡ placed r₃ (268 + 6 * n + 2 * held) (each n (entry_bytes (patched_view b x)))
      → r₅ ≡ placed r₄ at (trailer n total held worst) → r₆ ≡ placed r₅ (at + 10) (bytes16 (check_word_of (words (take (at + 10) r₅))))
      → r₆ ≡ filled (applied b x) r₀
  unfolding applied
  applied-filled B r₀ r₁ r₂ r₃ r₄ r₅ r₆ at fits e₁ e₂ e₃ far e₄ e₅ e₆ =
      let v = patched_view b x in
      let C : Counted (image.edition b) v (image.class_of b) (image.labels b) n total held depth worst =
      record {
        states_are = N;
        entries_are = F.total_is ∙ ap (λ (k : ℕ). sum k v.count) N;
        held_are = held_same b B A.accepted n held N F.held_are;
        depth_is = F.depth_is ∙ A.stated.deep;
        worst_is = F.worst_is ∙ A.stated.far;
      } in
      written (image.edition b) v (image.start b) (image.class_of b) (image.labels b) C r₀ r₁ r₂ r₃ r₄ r₅ r₆ at fits e₁
      (e₂ ∙ ap (placed r₁ 12) (named_stand b B A.accepted n held N F.held_are))
      (e₃ ∙ ap (λ (k : ℕ). placed r₂ (268 + 2 * n + 2 * held) (each k (record_bytes v))) N)
      (omega (arith, far, F.total_is))
      (e₄ ∙ ap (λ (k : ℕ). placed r₃ (268 + 6 * n + 2 * held) (each k (entry_bytes v))) N) e₅ e₆
