-- The parts of an image, written one behind the other with the check word last, are the image of the view.
use mathlib.Core.Path.{◌≡◌, refl, sym, ap, ap₂, ◌∙◌}
use mathlib.Core.List.{List, ◌++◌, append_assoc}
use Prim.Native.Nat.{ℕ, ◌+◌, ◌*◌, ◌≤◌}
use native.Mathlib.Omega.{arith}
use lib.ListN.{length, take, length-append}
use Rattle.paper.specs.Below.{each, list}
use Rattle.paper.specs.Words.{bytes16, bytes32, words, check_word_of}
use Rattle.paper.specs.Labels.{Edition}
use Rattle.paper.specs.View.{View, depth_of, worst_hops}
use Rattle.paper.specs.Image.{image_length_of}
use Rattle.paper.specs.Results.{label_bytes_of, labels_held_of, record_bytes, entry_bytes, front, trailer, parts, image_of_view}
use Rattle.paper.specs.Operations.{filled}
use Rattle.trips.proofs.Spans.{length-each}
use Rattle.trips.proofs.Numbers.{length_bytes}
use Rattle.trips.proofs.LabelBytes.{length-labels}
use Rattle.trips.proofs.ImageParts.{total, record_place, row_place, record_wide, row_wide, end}
use Rattle.words.specs.Placed.{placed}
use Rattle.words.proofs.Behind.{placed-behind}
use Rattle.ending.proofs.Trailer.{length-trailer}
use Rattle.ending.proofs.Ended.{body, ended}

-- Five parts, one behind the other.
five : (a b c d e : List ℕ) → (((a ++ b) ++ c) ++ d) ++ e ≡ a ++ (b ++ (c ++ (d ++ e)))
five a b c d e = simp append_assoc

-- The front takes 12 bytes.
length_front : (e : Edition) (n k start depth m : ℕ) → length (front e n k start depth m) ≡ 12
unfolding front bytes16 bytes32
length_front e n k start depth m = refl

-- What is counted of a view that is written: its states, its entries, the labels held, its depth and its worst.
pub record Counted (e : Edition) (v : View) (class_of : ℕ → ℕ) (labels : ℕ → List ℕ) (n m held depth worst : ℕ) : Type 0 where
  pub states_are : n ≡ v.states
  pub entries_are : m ≡ total v
  pub held_are : held ≡ labels_held_of e v.states labels
  pub depth_is : depth ≡ depth_of v
  pub worst_is : worst ≡ worst_hops v class_of

module _ (e : Edition) (v : View) (start : ℕ) (class_of : ℕ → ℕ) (labels : ℕ → List ℕ) {n m held depth worst : ℕ} (C : Counted e v class_of labels n m held depth worst) where
  -- The front, the classes and labels, the records and the entries.
  abbrev head : List ℕ
  head = front e v.states v.classes start depth m

  abbrev named : List ℕ
  named = list 256 class_of ++ label_bytes_of e v.states labels

  abbrev records : List ℕ
  records = each v.states (record_bytes v)

  abbrev entries : List ℕ
  entries = each v.states (entry_bytes v)

  -- All that the check word is over.
  body_is : head ++ (named ++ (records ++ (entries ++ trailer n m held worst))) ≡ body e v start class_of labels
  unfolding parts
  body_is =
      let ends : trailer n m held worst ≡ end e v start class_of labels = rw (C.states_are, C.entries_are, C.held_are, C.worst_is) refl in
      ap₂ ◌++◌ (ap₂ (front e v.states v.classes start) C.depth_is C.entries_are)
      (append_assoc (list 256 class_of) (label_bytes_of e v.states labels) _ ∙ ap (λ (t : List ℕ). list 256 class_of ++ (label_bytes_of e v.states labels ++ (records ++ (entries ++ t)))) ends)

  -- The entries take 4m bytes.
  pub entries_wide : length entries ≡ 4 * m
  entries_wide = omega (arith, length-each (entry_bytes v) (row_place v held) (row_wide v held) v.states, C.entries_are)

  -- Written in their order, with the check word of what stands before it, the parts are the image.
  pub written : (r₀ r₁ r₂ r₃ r₄ r₅ r₆ : List ℕ) (at : ℕ) → image_length_of n m held ≤ length r₀ → r₁ ≡ placed r₀ 0 head → r₂ ≡ placed r₁ 12 named
      → r₃ ≡ placed r₂ (268 + 2 * n + 2 * held) records → at ≡ 268 + 6 * n + 2 * held + 4 * m → r₄ ≡ placed r₃ (268 + 6 * n + 2 * held) entries
      → r₅ ≡ placed r₄ at (trailer n m held worst) → r₆ ≡ placed r₅ (at + 10) (bytes16 (check_word_of (words (take (at + 10) r₅))))
      → r₆ ≡ filled (image_of_view e v start class_of labels) r₀
  written r₀ r₁ r₂ r₃ r₄ r₅ r₆ at fits e₁ e₂ e₃ far e₄ e₅ e₆ =
      let t = trailer n m held worst in
      let N = C.states_are in
      let la = length_front e v.states v.classes start depth m in
      let lb : length named ≡ 256 + 2 * n + 2 * held
      = omega (arith, length-append (list 256 class_of) (label_bytes_of e v.states labels), length_bytes 256 class_of, length-labels e v.states labels, C.held_are) in
      let lc : length records ≡ 4 * n = omega (arith, length-each (record_bytes v) (record_place v held) (record_wide v held) v.states) in
      let ld = entries_wide in
      let le = length-trailer n m held worst in
      let lab : length (head ++ named) ≡ 268 + 2 * n + 2 * held = omega (arith, length-append head named) in
      let labc : length ((head ++ named) ++ records) ≡ 268 + 6 * n + 2 * held = omega (arith, length-append (head ++ named) records) in
      let labcd : length (((head ++ named) ++ records) ++ entries) ≡ at = omega (arith, length-append ((head ++ named) ++ records) entries) in
      let size : length ((((head ++ named) ++ records) ++ entries) ++ t) ≡ at + 10 = omega (arith, length-append (((head ++ named) ++ records) ++ entries) t) in
      let same : (((head ++ named) ++ records) ++ entries) ++ t ≡ body e v start class_of labels = five head named records entries t ∙ body_is in
      let p : r₅ ≡ placed r₀ 0 (body e v start class_of labels) =
      placed-behind r₀ r₄ r₅ (((head ++ named) ++ records) ++ entries) t 0 at (omega arith) (omega arith)
      (placed-behind r₀ r₃ r₄ ((head ++ named) ++ records) entries 0 (268 + 6 * n + 2 * held) (omega arith) (omega arith)
      (placed-behind r₀ r₂ r₃ (head ++ named) records 0 (268 + 2 * n + 2 * held) (omega arith) (omega arith)
      (placed-behind r₀ r₁ r₂ head named 0 12 (omega arith) (omega arith) e₁ e₂) e₃) e₄) e₅
      ∙ ap (placed r₀ 0) same in
      ended e v start class_of labels r₀ r₅ r₆ (at + 10) (ap length (sym same) ∙ size) (omega arith) p e₆
