-- The order in which pairs of equal weight are taken: by the smaller rest, then by the states.
use mathlib.Core.Path.{◌≡◌, refl, ◌∙◌}
use mathlib.Core.Bool.{Bool, true, false, cond}
use mathlib.Core.Logic.{inl, inr}
use mathlib.Core.List.{List, [], ◌∷◌}
use Prim.Native.Nat.{ℕ, ◌≤◌, ◌<◌}
use native.Mathlib.Omega.{arith}
use native.Mathlib.Decide.{ℕ_discrete}
use lib.Dec.{ltb}
use borrow.Author.Tests.{ltb-true, ltb-false}
use Rattle.paper.specs.Paths.{Among}
use Rattle.paper.specs.Forest.{Trees, next_pair}
use Rattle.paper.specs.BestPair.{Earlier, Ahead}
use Rattle.trees.proofs.Earlier.{Sorted, earlier_then, earlier_both}

module _ (n : ℕ) (rest : Trees → ℕ × ℕ → ℕ) (F : Trees) where
  -- What goes ahead of a pair goes ahead of what that goes ahead of.
  ahead_then : (p q r : ℕ × ℕ) → Ahead n rest F p q → Ahead n rest F q r → Ahead n rest F p r
  ahead_then p q r (inl a) (inl b) = inl (omega arith)
  ahead_then p q r (inl a) (inr b) = inl (omega (arith, b.0))
  ahead_then p q r (inr a) (inl b) = inl (omega (arith, a.0))
  ahead_then p q r (inr a) (inr b) = inr (a.0 ∙ b.0, earlier_then p q r a.1 b.1)

  -- Two pairs each of which goes ahead of the other are one.
  pub ahead_both : (p q : ℕ × ℕ) → Ahead n rest F p q → Ahead n rest F q p → p ≡ q
  ahead_both p q (inl a) (inl b) = absurd (omega arith)
  ahead_both p q (inl a) (inr b) = absurd (omega (arith, b.0))
  ahead_both p q (inr a) (inl b) = absurd (omega (arith, a.0))
  ahead_both p q (inr a) (inr b) = earlier_both p q a.1 b.1

  -- Each goes ahead of itself.
  ahead_self : (p : ℕ × ℕ) → Ahead n rest F p p
  ahead_self p = inr (refl, inr (refl, omega arith))

  -- A pair that stands before another and has no larger rest goes ahead of it.
  ahead_earlier : (p q : ℕ × ℕ) → rest F p ≤ rest F q → Earlier p q → Ahead n rest F p q
  ahead_earlier p q l e = elim (ℕ_discrete (rest F p) (rest F q)) [ yes k ↦ inr (k, e) | no k ↦ inl (omega arith) ]

  -- A smaller rest goes ahead of what the larger goes ahead of.
  ahead_less : (m q p : ℕ × ℕ) → Ahead n rest F m q → rest F q < rest F p → Ahead n rest F m p
  ahead_less m q p (inl a) l = inl (omega arith)
  ahead_less m q p (inr a) l = inl (omega (arith, a.0))

  -- Of a sorted list the pair to take next goes ahead of all.
  pub next_pair_ahead : (p : ℕ × ℕ) (ps : List (ℕ × ℕ)) → Sorted (p ∷ ps) → (r : ℕ × ℕ) → Among r (p ∷ ps) → Ahead n rest F (next_pair n rest F p ps) r
  next_pair_ahead p [] s r (inr x) = elim x [ ]
  next_pair_ahead p [] s r (inl e) = rw e (ahead_self p)
  next_pair_ahead p (q ∷ qs) s r m =
      go (ltb (rest F q) (rest F p)) refl m (next_pair_ahead q qs s.1) (next_pair_ahead p qs (λ x k. s.0 x (inr k), s.1.1))
    where
      go : (b : Bool) → ltb (rest F q) (rest F p) ≡ b → Among r (p ∷ q ∷ qs) → ((x : ℕ × ℕ) → Among x (q ∷ qs) → Ahead n rest F (next_pair n rest F q qs) x)
          → ((x : ℕ × ℕ) → Among x (p ∷ qs) → Ahead n rest F (next_pair n rest F p qs) x) → Ahead n rest F (next_pair n rest F (cond b q p) qs) r
      go true t (inl e) second first = rw e (ahead_less (next_pair n rest F q qs) q p (second q (inl refl)) (ltb-true (rest F q) (rest F p) t))
      go true t (inr k) second first = second r k
      go false t (inl e) second first = first r (inl e)
      go false t (inr (inl e)) second first =
          rw e (ahead_then (next_pair n rest F p qs) p q (first p (inl refl)) (ahead_earlier p q (ltb-false (rest F q) (rest F p) t) (s.0 q (inl refl))))
      go false t (inr (inr k)) second first = first r (inr k)
