-- Ground 24 at one listed state, as the code tests it.
use mathlib.Core.Path.{◌≡◌, refl, ap₂}
use mathlib.Core.Bool.{true, false, ◌||◌, or-true, or-false}
use mathlib.Core.List.{List}
use Prim.Native.Nat.{ℕ, zero, suc, ◌-◌, ◌≤◌, ◌<◌}
use native.Mathlib.Omega.{arith}
use lib.Dec.{leb}
use borrow.Author.Tests.{le-leb, lt-leb}
use Rattle.paper.specs.Patch.{state_at_of, state_falls}

module _ (x : List ℕ) (i n s : ℕ) (s_is : s ≡ state_at_of x i) where
  -- A state not below n.
  pub state_high : n ≤ s → true ≡ state_falls x i || leb n (state_at_of x i)
  state_high h = rw (← s_is, le-leb n s h, or-true)

  -- A first state below n.
  pub state_first : s < n → i ≡ 0 → false ≡ state_falls x i || leb n (state_at_of x i)
  state_first h e = rw (← s_is, lt-leb n s h, or-false, e)

  -- A later state below n, held to the one before.
  pub state_later : s < n → ¬ (i ≡ 0) → (t : ℕ) → t ≡ state_at_of x (i - 1) → leb s t ≡ state_falls x i || leb n (state_at_of x i)
  state_later h z t t_is = rw (lt-leb n (state_at_of x i) (omega (arith, s_is)), or-false) (go i z s_is t_is)
    where
      go : (i : ℕ) → ¬ (i ≡ 0) → s ≡ state_at_of x i → t ≡ state_at_of x (i - 1) → leb s t ≡ state_falls x i
      go zero z e w = absurd (z refl)
      go (suc i) z e w = let v : suc i - 1 ≡ i = omega arith in ap₂ leb e (rw v at w)
