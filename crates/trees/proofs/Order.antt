-- The order of the states of a tree as roots is total: by d, then by lean, then by number.
use mathlib.Core.Path.{◌≡◌, sym, ◌∙◌}
use mathlib.Core.Bool.{Bool, true, ◌&&◌, ◌||◌}
use mathlib.Core.Logic.{◌⊎◌, inl, inr}
use Prim.Native.Nat.{ℕ, ◌≤◌, ◌<◌}
use native.Mathlib.Omega.{arith}
use native.Mathlib.Decide.{dec_lt, dec_le, ℕ_discrete}
use lib.Dec.{ltb, eqb}
use borrow.Author.Tests.{lt-ltb, le-ltb, le-leb, leb-true, eq-eqb, eqb-true}
use Rattle.paper.specs.Forest.{Trees, d, before}
use Rattle.paper.proofs.Below.{and_true}

-- The one number is smaller, or they are equal and a later test passes.
abbrev smaller_or : ℕ → ℕ → Bool → Bool
smaller_or a b t = ltb a b || (eqb a b && t)

-- The same as a statement.
abbrev Ahead : ℕ → ℕ → Bool → Type 0
Ahead a b t = (a < b) ⊎ ((a ≡ b) × (t ≡ true))

-- The test passes where the statement holds.
ahead_true : (a b : ℕ) (t : Bool) → Ahead a b t → smaller_or a b t ≡ true
ahead_true a b t (inl l) = rw (lt-ltb a b l)
ahead_true a b t (inr e) = rw (le-ltb a b (omega (arith, e.0)), eq-eqb a b e.0, e.1)

-- And only there.
true_ahead : (a b : ℕ) (t : Bool) → smaller_or a b t ≡ true → Ahead a b t
true_ahead a b t e = go (dec_lt a b)
  where
    go : Dec (a < b) → Ahead a b t
    go (yes l) = inl l
    go (no l) = let (q, s) = and_true (eqb a b) t (rw (le-ltb a b (omega arith)) at e) in inr (eqb-true a b q, s)

module _ (a b : ℕ) (t s : Bool) where
  -- Where the later test is total, so is the whole.
  total : (t ≡ true) ⊎ (s ≡ true) → (smaller_or a b t ≡ true) ⊎ (smaller_or b a s ≡ true)
  total h =
      elim (dec_lt a b) [
        | yes l ↦ inl (ahead_true a b t (inl l))
        | no l ↦ elim (ℕ_discrete a b) [
          | yes e ↦ elim h [ inl p ↦ inl (ahead_true a b t (inr (e, p))) | inr p ↦ inr (ahead_true b a s (inr (sym e, p))) ]
          | no e ↦ inr (ahead_true b a s (inl (omega arith)))
        ]
      ]

  -- What goes both ways is decided by the later test, both ways.
  both : smaller_or a b t ≡ true → smaller_or b a s ≡ true → (t ≡ true) × (s ≡ true)
  both h k = go (true_ahead a b t h) (true_ahead b a s k)
    where
      go : Ahead a b t → Ahead b a s → (t ≡ true) × (s ≡ true)
      go (inl l) (inl m) = absurd (omega arith)
      go (inl l) (inr m) = absurd (omega (arith, m.0))
      go (inr l) (inl m) = absurd (omega (arith, l.0))
      go (inr l) (inr m) = (l.1, m.1)

  -- Where the later test is handed on, so is the whole.
  chained : (c : ℕ) (r : Bool) → (t ≡ true → s ≡ true → r ≡ true)
      → smaller_or a b t ≡ true → smaller_or b c s ≡ true → smaller_or a c r ≡ true
  chained c r f h k = ahead_true a c r (go (true_ahead a b t h) (true_ahead b c s k))
    where
      go : Ahead a b t → Ahead b c s → Ahead a c r
      go (inl l) (inl m) = inl (omega arith)
      go (inl l) (inr m) = inl (omega (arith, m.0))
      go (inr l) (inl m) = inl (omega (arith, l.0))
      go (inr l) (inr m) = inr (l.0 ∙ m.0, f l.1 m.1)

module _ (n : ℕ) (lean : Trees → ℕ → ℕ) (F : Trees) where
  -- Of two states one goes before the other.
  pub before_total : (y z : ℕ) → (before n lean F y z ≡ true) ⊎ (before n lean F z y ≡ true)
  before_total y z =
      total (d n F y) (d n F z) _ _ (total (lean F y) (lean F z) _ _ (elim (dec_le y z) [
        | yes l ↦ inl (le-leb y z l)
        | no l ↦ inr (le-leb z y (omega arith))
      ]))

  -- What goes before one that goes before a third goes before the third.
  pub before-chained : (x y z : ℕ) → before n lean F x y ≡ true → before n lean F y z ≡ true → before n lean F x z ≡ true
  before-chained x y z =
      chained (d n F x) (d n F y) _ _ (d n F z) _
      (chained (lean F x) (lean F y) _ _ (lean F z) _ (λ h k. le-leb x z (omega (arith, leb-true x y h, leb-true y z k))))

  -- Two states of which each goes before the other are one.
  pub before_both : (y z : ℕ) → before n lean F y z ≡ true → before n lean F z y ≡ true → y ≡ z
  before_both y z h k =
      let (p, q) = both (d n F y) (d n F z) _ _ h k in
      let (r, s) = both (lean F y) (lean F z) _ _ p q in
      omega (arith, leb-true y z r, leb-true z y s)

  -- What goes before has no larger d.
  pub before-d : (y z : ℕ) → before n lean F y z ≡ true → d n F y ≤ d n F z
  before-d y z h = elim (true_ahead (d n F y) (d n F z) _ h) [ inl l ↦ omega arith | inr e ↦ omega (arith, e.0) ]

  -- With the same d it has no larger lean.
  pub before-lean : (y z : ℕ) → before n lean F y z ≡ true → d n F y ≡ d n F z → lean F y ≤ lean F z
  before-lean y z h q =
      elim (true_ahead (d n F y) (d n F z) _ h) [
        | inl l ↦ absurd (omega arith)
        | inr e ↦ elim (true_ahead (lean F y) (lean F z) _ e.1) [ inl l ↦ omega arith | inr f ↦ omega (arith, f.0) ]
      ]

  -- With the same lean too it has no larger number.
  pub before_number : (y z : ℕ) → before n lean F y z ≡ true → d n F y ≡ d n F z → lean F y ≡ lean F z → y ≤ z
  before_number y z h q r =
      elim (true_ahead (d n F y) (d n F z) _ h) [
        | inl l ↦ absurd (omega arith)
        | inr e ↦ elim (true_ahead (lean F y) (lean F z) _ e.1) [ inl l ↦ absurd (omega arith) | inr f ↦ leb-true y z f.1 ]
      ]
