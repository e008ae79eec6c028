-- What a sweep over an order of the states has found so far: for the states at the places passed, what it set down.
use mathlib.Core.Path.{◌≡◌, sym, ap, ◌∙◌}
use mathlib.Core.Option.{some}
use mathlib.Core.List.{List}
use Prim.Native.Nat.{ℕ, ◌+◌, ◌<◌}
use native.Mathlib.Decide.{ℕ_discrete}
use native.Mathlib.Omega.{arith}
use lib.ListN.{get_or}
use Rattle.paper.specs.Image.{default_from_of}
use Rattle.chains.specs.Orders.{StandsBefore, ParentFirst}

module _ {A : Type 0} (P : ℕ → A → Type 0) (order : List ℕ) where
  -- Of the states at the first i places the right values are set down.
  abbrev pub Done : (ℕ → A) → ℕ → Type 0
  Done f i = (j : ℕ) → j < i → P (get_or order j 0) (f (get_or order j 0))

  -- One more: the right value is set down for the state at the next place, and no other value changes.
  pub done_more : (f g : ℕ → A) (i s : ℕ) → s ≡ get_or order i 0 → P s (g s) → ((q : ℕ) → ¬ (q ≡ s) → g q ≡ f q) → Done f i → Done g (i + 1)
  done_more f g i s w p same D j h = go (ℕ_discrete (get_or order j 0) s)
    where
      go : Dec (get_or order j 0 ≡ s) → P (get_or order j 0) (g (get_or order j 0))
      go (yes e) = rw e p
      go (no e) = rw (same (get_or order j 0) e) (D j (before (ℕ_discrete j i)))
        where
          before : Dec (j ≡ i) → j < i
          before (yes q) = absurd (e (ap (λ (m : ℕ). get_or order m 0) q ∙ sym w))
          before (no q) = omega arith

  -- The value of a state that stands before is right.
  done_before : (f : ℕ → A) (i s : ℕ) → StandsBefore order i s → Done f i → P s (f s)
  done_before f i s (j, h, e) D = rw e at (D j h)

  -- So is that of the default of the state at the next place.
  pub done_default : (n : ℕ) (def : List ℕ) (f : ℕ → A) (i s d : ℕ) → ParentFirst n def order → i < n → s ≡ get_or order i 0 → default_from_of (get_or def s 0) ≡ some d
      → Done f i → P d (f d)
  done_default n def f i s d O h w e = done_before f i d (O.after i d h (rw w at e))

  -- At the end all are.
  pub done_all : (n : ℕ) (def : List ℕ) (f : ℕ → A) → ParentFirst n def order → Done f n → (s : ℕ) → s < n → P s (f s)
  done_all n def f O D s h = done_before f n s (O.stands s h) D
