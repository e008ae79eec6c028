-- Two lists that the test takes for the same are equal.
use mathlib.Core.Path.{◌≡◌, refl, sym, ap₂}
use mathlib.Core.Bool.{true, true≢false}
use mathlib.Core.List.{List, [], ◌∷◌}
use Prim.Native.Nat.{ℕ}
use lib.Dec.{eqb}
use borrow.Author.Tests.{eq-eqb, eqb-true}
use Rattle.paper.specs.Below.{same}
use Rattle.paper.proofs.Below.{and_true}

-- Lists that the test takes for the same are equal.
pub same_true : (a b : List ℕ) → same a b ≡ true → a ≡ b
same_true [] [] e = refl
same_true [] (y ∷ b) e = absurd (true≢false (sym e))
same_true (x ∷ a) [] e = absurd (true≢false (sym e))
same_true (x ∷ a) (y ∷ b) e = let (p, q) = and_true (eqb x y) (same a b) e in ap₂ ◌∷◌ (eqb-true x y p) (same_true a b q)

-- A list is the same as itself.
same_self : (a : List ℕ) → same a a ≡ true
same_self [] = refl
same_self (x ∷ a) = rw (eq-eqb x x refl) (same_self a)

-- And the other way: equal lists are taken for the same.
pub eq_same : (a b : List ℕ) → a ≡ b → same a b ≡ true
eq_same a b e = rw (← e) (same_self a)
