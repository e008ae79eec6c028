-- The first byte of a class, and that it does not matter which byte of a class is read.
use mathlib.Core.Path.{◌≡◌, refl, sym, ap, ◌∙◌}
use mathlib.Core.Bool.{Bool, true, false}
use mathlib.Core.Logic.{◌⊎◌, inl, inr}
use mathlib.Core.Option.{Option, none, some}
use mathlib.Core.List.{List, [], ◌∷◌, ◌++◌}
use Prim.Native.Nat.{ℕ, ◌<◌}
use native.Mathlib.Omega.{arith}
use lib.Dec.{eqb}
use lib.ListN.{get_or}
use borrow.Author.Tests.{eq-eqb, eqb-true}
use Rattle.paper.specs.Below.{list, when, or, first_of}
use Rattle.paper.specs.Strings.{Rule, names, longest_ending_of, used, classes, class_of, byte_of}
use Rattle.paper.proofs.Below.{first_of_some, first_of_empty}
use Rattle.paper.proofs.Tests.{none≢some}
use Rattle.paper.proofs.Lists.{get_or-list}
use Rattle.strings.proofs.Used.{unused_empty}
use Rattle.strings.proofs.Classes.{class_met, class_decides, class_below}

-- A number that is the value of a test that passes is that number.
when_some : (b : Bool) (x y : ℕ) → when b x ≡ some y → (b ≡ true) × (x ≡ y)
when_some true x y e = (refl, cc)
when_some false x y e = absurd (none≢some (when false x) y refl e)

module _ (rs : List Rule) where
  -- The class of each byte, in byte order.
  abbrev pub class_list : List ℕ
  class_list = list 256 (class_of rs)

  -- The first byte of each class.
  abbrev pub byte_list : List ℕ
  byte_list = list (classes rs) (byte_of class_list)

  -- The first byte of a class below k is a byte of that class.
  pub byte_of_class : (c : ℕ) → c < classes rs → (byte_of class_list c < 256) × (class_of rs (byte_of class_list c) ≡ c)
  unfolding byte_of
  byte_of_class c h = go (first_of 256 f) refl
    where
      f : ℕ → Option ℕ
      f x = when (eqb (get_or class_list x 0) c) x

      go : (o : Option ℕ) → first_of 256 f ≡ o → (or o 0 < 256) × (class_of rs (or o 0) ≡ c)
      go none e =
          let (x, hx, m) = class_met rs c h in
          absurd (none≢some (f x) x (first_of_empty f 256 x e hx) (ap (λ (b : Bool). when b x) (eq-eqb (get_or class_list x 0) c (get_or-list 256 x (class_of rs) 0 hx ∙ m))))
      go (some y) e =
          let (x, hx, w) = first_of_some f 256 y e in
          let (t, q) = when_some (eqb (get_or class_list x 0) c) x y w in
          (omega arith, ap (class_of rs) (sym q) ∙ sym (get_or-list 256 x (class_of rs) 0 hx) ∙ eqb-true (get_or class_list x 0) c t)

  -- Two bytes of one class lead from a string to the same name.
  pub class_next : (p : List ℕ) (x y : ℕ) → x < 256 → y < 256 → class_of rs x ≡ class_of rs y
      → longest_ending_of (names rs) (p ++ (x ∷ [])) ≡ longest_ending_of (names rs) (p ++ (y ∷ []))
  class_next p x y hx hy e = go (class_decides rs x y hx hy e)
    where
      go : (x ≡ y) ⊎ ((used rs x ≡ false) × (used rs y ≡ false)) → longest_ending_of (names rs) (p ++ (x ∷ [])) ≡ longest_ending_of (names rs) (p ++ (y ∷ []))
      go (inl q) = ap (λ (z : ℕ). longest_ending_of (names rs) (p ++ (z ∷ []))) q
      go (inr (q, r)) = unused_empty rs x q p ∙ sym (unused_empty rs y r p)

  -- So the class of a byte decides the next name: the first byte of its class does as well.
  pub first_byte_next : (p : List ℕ) (x : ℕ) → x < 256
      → longest_ending_of (names rs) (p ++ (get_or byte_list (class_of rs x) 0 ∷ [])) ≡ longest_ending_of (names rs) (p ++ (x ∷ []))
  first_byte_next p x hx =
      let (l, e) = byte_of_class (class_of rs x) (class_below rs x hx) in
      ap (λ (z : ℕ). longest_ending_of (names rs) (p ++ (z ∷ []))) (get_or-list (classes rs) (class_of rs x) (byte_of class_list) 0 (class_below rs x hx))
      ∙ class_next p (byte_of class_list (class_of rs x)) x l hx e
