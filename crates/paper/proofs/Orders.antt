-- The defaults by order: those of the forest in the orders 0, 1 and 2, in order 3 those toward the start.
use mathlib.Core.Path.{◌≡◌, ap}
use mathlib.Core.Bool.{Bool, cond}
use mathlib.Core.List.{List}
use mathlib.Core.Option.{Option}
use Prim.Native.Nat.{ℕ, ◌≤◌}
use native.Mathlib.Omega.{arith}
use borrow.Author.Tests.{eq-eqb, ne_eqb}
use Rattle.paper.specs.Forest.{toward_root}
use Rattle.paper.specs.FallBack.{toward_start}
use Rattle.paper.specs.Defaults.{defaults}

module _ (t : List ℕ) (order D : ℕ) where
  -- The defaults, if the order is 3 and if it is not.
  abbrev chosen : Bool → ℕ → Option ℕ
  chosen third = cond third (toward_start t) (toward_root t order D)

  -- In every order but 3 they are the forest's.
  pub defaults-forest : ¬ (order ≡ 3) → defaults t order D ≡ toward_root t order D
  unfolding defaults
  defaults-forest ne = ap {B = ℕ → Option ℕ} chosen (ne_eqb order 3 ne)

  -- So they are in the orders 0, 1 and 2.
  pub defaults_few : order ≤ 2 → defaults t order D ≡ toward_root t order D
  defaults_few h = defaults-forest (λ e. omega arith)

  -- In order 3 they fall back toward the start, whatever D is.
  pub defaults_toward : order ≡ 3 → defaults t order D ≡ toward_start t
  unfolding defaults
  defaults_toward e = ap {B = ℕ → Option ℕ} chosen (eq-eqb order 3 e)
