-- What is read of a string by its place: label, length and bytes.
use mathlib.Core.Path.{◌≡◌, refl, ap, ◌∙◌}
use mathlib.Core.List.{List}
use Prim.Native.Nat.{ℕ, ◌+◌, ◌≤◌, ◌<◌}
use native.Mathlib.Omega.{arith}
use lib.ListN.{length, get_or}
use Rattle.paper.specs.Words.{number16}
use Rattle.paper.specs.Strings.{count, string_at, size, label, string}
use Rattle.strings.proofs.Shape.{Starts, place_inside}
use Rattle.strings.proofs.Parts.{part}

module _ (b : List ℕ) (i at : ℕ) (e : at ≡ string_at b i) where
  -- The length of a string stands two bytes behind its place.
  pub size_read : (x : ℕ) → x ≡ number16 b (at + 2) → x ≡ size b i
  unfolding size
  size_read x q = q ∙ ap (λ (y : ℕ). number16 b (y + 2)) e

  -- Its label stands at its place.
  pub label_read : (x : ℕ) → x ≡ number16 b at → x ≡ label b i
  unfolding label
  label_read x q = q ∙ ap (number16 b) e

module _ (b starts : List ℕ) (n : ℕ) (S : Starts b starts n) (i : ℕ) (h : i < n) where
  -- Place, label, length and bytes of a string stand inside the list.
  pub string_inside : get_or starts i 0 + (4 + size b i) ≤ length b
  string_inside =
      let l : i < count b = omega (arith, S.counted) in
      omega (arith, S.start_is i h, place_inside b S.shape i l)

  -- What is read as its length is its length.
  pub size_is : (x : ℕ) → x ≡ number16 b (get_or starts i 0 + 2) → x ≡ size b i
  size_is x q = size_read b i (get_or starts i 0) (S.start_is i h) x q

  -- What is read as its label is its label.
  pub label_is : (x : ℕ) → x ≡ number16 b (get_or starts i 0) → x ≡ label b i
  label_is x q = label_read b i (get_or starts i 0) (S.start_is i h) x q

  -- Its bytes are so many bytes from its place on.
  pub string_part : (x : ℕ) → x ≡ size b i → string b i ≡ part b (get_or starts i 0 + 4) x
  unfolding string
  string_part x q = rw (q, S.start_is i h) refl
