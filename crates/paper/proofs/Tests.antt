-- Tests and the sentences that they decide.
use mathlib.Core.Path.{◌≡◌, refl, sym, ap, ◌∙◌}
use mathlib.Core.Bool.{Bool, true, false, not, ◌&&◌, ◌||◌, true≢false}
use mathlib.Core.Logic.{◌⊎◌, inl, inr, ⊎_elim, ◌↔◌}
use mathlib.Core.Option.{Option, none, some}
use Prim.Native.Nat.{ℕ, ◌≤◌, ◌<◌}
use native.Mathlib.Omega.{arith}
use lib.Dec.{ltb, leb, eqb}
use borrow.Author.Tests.{lt-ltb, le-leb, eq-eqb, ltb-true, ltb-false, leb-true, eqb-true, not-false, le-ltb}
use Rattle.paper.specs.Below.{any, differ, outside, given}
use Rattle.paper.specs.Sentences.{Some, OutOf}
use Rattle.paper.proofs.Below.{and_true, any_found, any_some}

-- The test passes just where the sentence holds.
abbrev pub Holds : Bool → Type 0 → Type 0
Holds b A = b ≡ true ↔ A

-- A test that does not fail passes, and one that passes does not fail.
pub passes : (b : Bool) → ¬ (b ≡ false) → b ≡ true
passes true n = refl
passes false n = absurd (n refl)

-- Less.
pub holds_less : (a b : ℕ) → Holds (ltb a b) (a < b)
holds_less a b = (ltb-true a b, lt-ltb a b)

-- Up to.
pub holds_up_to : (a b : ℕ) → Holds (leb a b) (a ≤ b)
holds_up_to a b = (leb-true a b, le-leb a b)

-- Not below.
pub holds_not_below : (a b : ℕ) → Holds (leb b a) (¬ (a < b))
holds_not_below a b = (λ e h. absurd (omega (arith, leb-true b a e)), λ h. le-leb b a (omega (arith, h)))

-- Equal.
pub holds_equal : (a b : ℕ) → Holds (eqb a b) (a ≡ b)
holds_equal a b = (eqb-true a b, eq-eqb a b)

-- Not.
pub holds_not : {A : Type 0} (b : Bool) → Holds b A → Holds (not b) (¬ A)
holds_not true h = (λ e a. true≢false (sym e), λ n. absurd (n (h.0 refl)))
holds_not false h = (λ e a. true≢false (sym (h.1 a)), λ n. refl)

-- Different.
pub holds_differ : (a b : ℕ) → Holds (differ a b) (¬ (a ≡ b))
holds_differ a b = holds_not (eqb a b) (holds_equal a b)

-- Or.
pub holds_or : {A B : Type 0} (a b : Bool) → Holds a A → Holds b B → Holds (a || b) (A ⊎ B)
holds_or true b h k = (λ e. inl (h.0 refl), λ s. refl)
holds_or false b h k = (λ e. inr (k.0 e), λ s. ⊎_elim (λ x. absurd (true≢false (sym (h.1 x)))) k.1 s)

-- And.
pub holds_and : {A B : Type 0} (a b : Bool) → Holds a A → Holds b B → Holds (a && b) (A × B)
holds_and a b h k = (λ e. let (p, q) = and_true a b e in (h.0 p, k.0 q), λ s. rw (h.1 s.0, k.1 s.1))

-- Some number below n.
pub holds_some : (n : ℕ) (p : ℕ → Bool) (P : ℕ → Type 0) → ((i : ℕ) → i < n → Holds (p i) (P i)) → Holds (any n p) (Some n P)
holds_some n p P h = (λ e. let (i, l, q) = any_some n p e in (i, l, (h i l).0 q), λ s. any_found n s.0 p s.1 ((h s.0 s.1).1 s.2))

-- Out of a range.
pub holds_out_of : (a b x : ℕ) → Holds (outside a b x) (OutOf a b x)
holds_out_of a b x = holds_or (ltb x a) (ltb b x) (holds_less x a) (holds_less b x)

-- Where the sentence does not hold the test fails.
pub fails : {A : Type 0} (b : Bool) → Holds b A → ¬ A → b ≡ false
fails true h n = absurd (n (h.0 refl))
fails false h n = refl

-- Where the test fails the sentence does not hold.
pub failed : {A : Type 0} (b : Bool) → Holds b A → b ≡ false → ¬ A
failed b h e a = true≢false (sym (h.1 a) ∙ e)

-- Neither of two tests passes.
pub or_both : (a b : Bool) → a || b ≡ false → (a ≡ false) × (b ≡ false)
or_both false b e = (refl, e)
or_both true b e = absurd (true≢false e)

-- And the other way.
pub or_neither : (a b : Bool) → a ≡ false → b ≡ false → a || b ≡ false
or_neither a b e e' = rw (e, e')

-- Numbers that do not differ.
pub not_differ : (a b : ℕ) → differ a b ≡ false → a ≡ b
not_differ a b e = eqb-true a b (not-false (eqb a b) e)

-- And the other way.
pub same_differ : (a b : ℕ) → a ≡ b → differ a b ≡ false
same_differ a b e = ap not (eq-eqb a b e)

-- A number that is not outside.
pub not_outside : (a b x : ℕ) → outside a b x ≡ false → (a ≤ x) × (x ≤ b)
not_outside a b x e = let (p, q) = or_both (ltb x a) (ltb b x) e in (ltb-false x a p, ltb-false b x q)

-- And the other way.
pub within_outside : (a b x : ℕ) → a ≤ x → x ≤ b → outside a b x ≡ false
within_outside a b x p q = or_neither (ltb x a) (ltb b x) (le-ltb x a p) (le-ltb b x q)

-- A value that is given.
pub given_some : {A : Type 0} (o : Option A) → not (given o) ≡ false → (a : A) × (o ≡ some a)
given_some none e = absurd (true≢false e)
given_some (some a) e = (a, refl)

-- None and a value are not the same.
pub none≢some : {A : Type 0} (o : Option A) (a : A) → o ≡ none → o ≡ some a → ⊥
none≢some o a e q = true≢false (sym (ap given q) ∙ ap given e)
