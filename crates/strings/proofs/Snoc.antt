-- Strings with one byte more at their end: what they are made of, and endings tested from the last byte on.
use mathlib.Core.Path.{◌≡◌, refl, sym, ap, ◌∙◌}
use mathlib.Core.Bool.{Bool, true, false, ◌&&◌}
use mathlib.Core.List.{List, [], ◌∷◌, ◌++◌, append_assoc, append-nil}
use Prim.Native.Nat.{ℕ, suc}
use native.Mathlib.Omega.{arith}
use lib.Dec.{eqb}
use lib.ListN.{length, get_or, take, length-append}
use lib.Seq.{take_at, get_or_at}
use borrow.Author.Tests.{eq-eqb, eqb-true}
use Rattle.paper.specs.Strings.{ends}
use Rattle.paper.proofs.Below.{and_true}
use Rattle.strings.proofs.Longest.{ends_ending, ending_ends}

-- Equal strings with one byte more are equal in both parts.
pub snoc_parts : (v w : List ℕ) (a b : ℕ) → v ++ (a ∷ []) ≡ w ++ (b ∷ []) → (v ≡ w) × (a ≡ b)
snoc_parts v w a b e =
    let l : length w ≡ length v = omega (arith, ap length e, length-append v (a ∷ []), length-append w (b ∷ [])) in (
      sym (take_at v (a ∷ []) (length v) refl) ∙ ap (take (length v)) e ∙ take_at w (b ∷ []) (length v) l,
      sym (get_or_at v a [] 0 (length v) refl) ∙ ap (λ (x : List ℕ). get_or x (length v) 0) e ∙ get_or_at w b [] 0 (length v) l,
    )

-- A string with a byte at its end is not empty.
pub snoc_some : (v : List ℕ) (a : ℕ) → ¬ (v ++ (a ∷ []) ≡ [])
snoc_some v a e = absurd (omega (arith, ap length e, length-append v (a ∷ [])))

-- It is longer by one.
pub snoc_length : (v : List ℕ) (a : ℕ) → length (v ++ (a ∷ [])) ≡ suc (length v)
snoc_length v a = omega (arith, length-append v (a ∷ []))

-- The empty string ends every string.
pub ends_empty : (w : List ℕ) → ends [] w ≡ true
ends_empty w = ending_ends [] w (w, sym (append-nil w))

-- Two tests that pass together are one.
pub both_ways : (p q : Bool) → (p ≡ true → q ≡ true) → (q ≡ true → p ≡ true) → p ≡ q
both_ways true q f g = sym (f refl)
both_ways false true f g = g refl
both_ways false false f g = refl

-- One string ends another just where the last bytes are equal and the rest of the one ends the rest of the other.
pub ends_snoc : (v w : List ℕ) (a b : ℕ) → ends (v ++ (a ∷ [])) (w ++ (b ∷ [])) ≡ eqb a b && ends v w
ends_snoc v w a b = both_ways (ends (v ++ (a ∷ [])) (w ++ (b ∷ []))) (eqb a b && ends v w) forth back
  where
    forth : ends (v ++ (a ∷ [])) (w ++ (b ∷ [])) ≡ true → eqb a b && ends v w ≡ true
    forth e =
        let (u, q) = ends_ending (v ++ (a ∷ [])) (w ++ (b ∷ [])) e in
        let (p, r) = snoc_parts w (u ++ v) b a (q ∙ sym (append_assoc u v (a ∷ []))) in
        rw (eq-eqb a b (sym r)) (ending_ends v w (u, p))

    back : eqb a b && ends v w ≡ true → ends (v ++ (a ∷ [])) (w ++ (b ∷ [])) ≡ true
    back e =
        let (p, q) = and_true (eqb a b) (ends v w) e in
        let (u, r) = ends_ending v w q in
        ending_ends (v ++ (a ∷ [])) (w ++ (b ∷ []))
        (u, ap (λ (l : List ℕ). l ++ (b ∷ [])) r ∙ ap (λ (x : ℕ). u ++ v ++ (x ∷ [])) (sym (eqb-true a b p)) ∙ append_assoc u v (a ∷ []))
