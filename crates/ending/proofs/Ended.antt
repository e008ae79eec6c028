-- The parts of an image placed from the room's beginning on, with the check word of what stands before it behind them, are the image.
use mathlib.Core.Path.{◌≡◌, ap, ◌∙◌}
use mathlib.Core.List.{List, ◌++◌, append_assoc}
use Prim.Native.Nat.{ℕ, ◌≤◌}
use native.Mathlib.Nat.{zero-add}
use lib.ListN.{length, take, drop}
use lib.Seq.{take_at}
use Rattle.paper.specs.Below.{each, list, sum}
use Rattle.paper.specs.Words.{bytes16, words, check_word_of}
use Rattle.paper.specs.Labels.{Edition}
use Rattle.paper.specs.View.{View, depth_of}
use Rattle.paper.specs.Results.{label_bytes_of, record_bytes, entry_bytes, front, parts, image_of_view}
use Rattle.paper.specs.Operations.{filled}
use Rattle.trips.proofs.ImageParts.{end}
use Rattle.words.specs.Placed.{placed}
use Rattle.words.proofs.Placed.{placed-front}
use Rattle.words.proofs.Behind.{placed-behind}

module _ (e : Edition) (v : View) (start : ℕ) (class_of : ℕ → ℕ) (labels : ℕ → List ℕ) where
  -- What stands behind the parts of an image ends it.
  parts-behind : (x w : List ℕ) → parts e v start class_of labels x ++ w ≡ parts e v start class_of labels (x ++ w)
  unfolding parts
  parts-behind x w =
      behind (front e v.states v.classes start (depth_of v) (sum v.states v.count)) (list 256 class_of) (label_bytes_of e v.states labels)
      (each v.states (record_bytes v)) (each v.states (entry_bytes v))
    where
      behind : (a b c d f : List ℕ) → (a ++ (b ++ (c ++ (d ++ (f ++ x))))) ++ w ≡ a ++ (b ++ (c ++ (d ++ (f ++ (x ++ w)))))
      behind a b c d f = simp append_assoc

  -- All that the check word is over.
  abbrev pub body : List ℕ
  body = parts e v start class_of labels (end e v start class_of labels)

  image_is : body ++ bytes16 (check_word_of (words body)) ≡ image_of_view e v start class_of labels
  unfolding image_of_view
  image_is = parts-behind (end e v start class_of labels) (bytes16 (check_word_of (words body)))

  -- With the check word behind them the parts are the image.
  pub ended : (r₀ r₁ r₂ : List ℕ) (at : ℕ) → length body ≡ at → at ≤ length r₀ → r₁ ≡ placed r₀ 0 body → r₂ ≡ placed r₁ at (bytes16 (check_word_of (words (take at r₁))))
      → r₂ ≡ filled (image_of_view e v start class_of labels) r₀
  ended r₀ r₁ r₂ at long fits p q =
      let before : take at r₁ ≡ body = ap (take at) (p ∙ placed-front r₀ body) ∙ take_at body (drop (length body) r₀) at long in
      placed-behind r₀ r₁ r₂ body (bytes16 (check_word_of (words body))) 0 at (zero-add (length body) ∙ long) fits p
      (q ∙ ap (λ (l : List ℕ). placed r₁ at (bytes16 (check_word_of (words l)))) before)
      ∙ ap (placed r₀ 0) image_is
      ∙ placed-front r₀ (image_of_view e v start class_of labels)
