-- What the loops over the strings of a word list read, over plain values, and their turns.
use mathlib.Core.Path.{◌≡◌, refl, sym, ap, ◌∙◌}
use mathlib.Core.Bool.{Bool, true, false, ◌||◌, or-true}
use mathlib.Core.List.{List}
use Prim.Native.Nat.{ℕ, ◌+◌, ◌≤◌, ◌<◌}
use native.Mathlib.Numerals.{add-one}
use native.Mathlib.Omega.{arith}
use lib.Dec.{ltb, eqb}
use lib.ListN.{length}
use borrow.Author.Tests.{lt-ltb, eq-eqb, ne_eqb}
use Rattle.paper.specs.Below.{any, how_many_of, differ, outside}
use Rattle.paper.specs.Words.{number16}
use Rattle.paper.specs.Strings.{count, string_at, size, label, string, list_bad_of, list_labels_bad, rules, ends, too_many_labels}
use Rattle.paper.proofs.Below.{any_more}
use Rattle.paper.proofs.Tests.{or_neither, within_outside}
use Rattle.strings.proofs.Places.{place_next}
use Rattle.strings.proofs.Shape.{size_bad, shape_end}
use Rattle.strings.proofs.Strings.{size_read}
use Rattle.strings.proofs.TooMany.{crowded, too_many_strings}

-- A number below a range is outside it,
pub below_range : (a b x : ℕ) → x < a → outside a b x ≡ true
below_range a b x h = rw (lt-ltb x a h) refl

-- and so is one above it.
pub above_range : (a b x : ℕ) → b < x → outside a b x ≡ true
above_range a b x h = rw (lt-ltb b x h) (or-true (ltb x a))

module _ (b : List ℕ) (i at : ℕ) (e : at ≡ string_at b i) where
  -- One string more with a length in range.
  pub shape_turn : (x : ℕ) → x ≡ number16 b (at + 2) → 1 ≤ x → x ≤ 32 → any i (size_bad b) ≡ false → (at + (4 + x) ≡ string_at b (i + 1)) × (any (i + 1) (size_bad b) ≡ false)
  shape_turn x q l h none =
      let z = size_read b i at e x q in (
        rw (add-one i) (omega (arith, place_next b i)),
        any_more i (size_bad b) none (within_outside 1 32 (size b i) (omega arith) (omega arith)),
      )

-- After the last string the end decides.
pub shape_finish : (b : List ℕ) (n at i : ℕ) → n ≡ count b → 1 ≤ n → n ≤ 64 → i ≡ n → at ≡ string_at b i → any i (size_bad b) ≡ false → differ at (length b) ≡ list_bad_of b
shape_finish b n at i en l h ei ea none =
    let e : i ≡ count b = ei ∙ en in
    ap (λ (x : ℕ). differ x (length b)) (ea ∙ ap (string_at b) e)
    ∙ shape_end b (within_outside 1 64 (count b) (omega arith) (omega arith)) (ap (λ (x : ℕ). any x (size_bad b)) (sym e) ∙ none)

-- The string's label is 0, or one that a string before has.
abbrev pub label_bad : List ℕ → ℕ → Bool
label_bad b i = eqb (label b i) 0 || any i (λ j. eqb (label b j) (label b i))

-- Ground 27 over the strings.
pub labels_all : (b : List ℕ) → any (count b) (label_bad b) ≡ list_labels_bad b
unfolding list_labels_bad
labels_all b = refl

module _ (b : List ℕ) (i l : ℕ) (e : l ≡ label b i) where
  -- A label 0.
  pub label_zero : l ≡ 0 → label_bad b i ≡ true
  label_zero z = rw (eq-eqb (label b i) 0 (sym e ∙ z)) refl

  -- A label that stands before.
  pub label-twice : any i (λ j. eqb (label b j) l) ≡ true → label_bad b i ≡ true
  label-twice q = ap (λ (x : Bool). eqb (label b i) 0 || x) (ap (λ (x : ℕ). any i (λ j. eqb (label b j) x)) (sym e) ∙ q) ∙ or-true (eqb (label b i) 0)

  -- Neither.
  pub label_good : ¬ (l ≡ 0) → any i (λ j. eqb (label b j) l) ≡ false → label_bad b i ≡ false
  label_good z q =
      or_neither (eqb (label b i) 0) (any i (λ j. eqb (label b j) (label b i))) (ne_eqb (label b i) 0 (λ w. z (e ∙ w))) (ap (λ (x : ℕ). any i (λ j. eqb (label b j) x)) (sym e) ∙ q)

-- The string is ended by more than 16 strings.
abbrev pub crowded_at : List ℕ → ℕ → Bool
crowded_at b i = ltb 16 (how_many_of (count b) (λ q. ends (string b q) (string b i)))

-- Over all strings it is ground 19.
pub crowded_all : (b : List ℕ) → any (count b) (crowded_at b) ≡ too_many_labels (rules b)
unfolding crowded
crowded_all b = sym (too_many_strings b)
