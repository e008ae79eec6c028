-- Sums over defaults: the sum over neighbours is twice the weights of the states with their defaults.
use mathlib.Core.Path.{◌≡◌, refl, sym, ap, ◌∙◌}
use mathlib.Core.Bool.{Bool, true, false, true≢false}
use mathlib.Core.Logic.{inl, inr}
use mathlib.Core.Option.{Option, none, some}
use Prim.Native.Nat.{ℕ, ◌+◌, ◌*◌, ◌<◌}
use native.Mathlib.Omega.{arith}
use native.Mathlib.Decide.{ℕ_discrete}
use lib.Dec.{eqb}
use borrow.Author.Tests.{eq-eqb, ne_eqb}
use Rattle.paper.specs.Below.{sum}
use Rattle.paper.specs.Forest.{Trees, points_to}
use Rattle.paper.proofs.Tests.{none≢some}
use Rattle.paper.proofs.Sums.{sum_same, sum_add, sum_zero, sum_swap}
use Rattle.paper.proofs.Counts.{pick_value}
use Rattle.paper.proofs.Chain.{some_same}
use Rattle.trees.proofs.Metric.{Metric}
use Rattle.trees.proofs.Inside.{Inside}
use Rattle.trees.proofs.Points.{points_to_some}
use Rattle.trees.proofs.Edges.{neighbours_point, point_once}
use Rattle.trees.proofs.EdgeSums.{value_if, neighbours, neighbours_hold, neighbours_true, around_sum}

-- A value of a default at one state.
abbrev value_at : Option ℕ → ℕ → ℕ → ℕ
value_at none y m = 0
value_at (some d) y m = value_if (eqb d y) m

-- The value that a default has, 0 for none.
abbrev pub default_value : Option ℕ → (ℕ → ℕ) → ℕ
default_value none g = 0
default_value (some d) g = g d

-- The weights of the states with their defaults together.
abbrev pub fall_sum : ℕ → (ℕ → ℕ → ℕ) → (ℕ → Option ℕ) → ℕ
fall_sum n w f = sum n (λ x. default_value (f x) (w x))

module _ (n : ℕ) (w : ℕ → ℕ → ℕ) (symmetric : (x y : ℕ) → w x y ≡ w y x) (lean : Trees → ℕ → ℕ) (F : Trees) (M : Metric F) (I : Inside n F) where
  -- The defaults.
  abbrev f : ℕ → Option ℕ
  f = points_to n lean F

  -- The default of a state at each state, summed, is its value.
  value_sum : (o : Option ℕ) (g : ℕ → ℕ) → ((d : ℕ) → o ≡ some d → d < n) → sum n (λ y. value_at o y (g y)) ≡ default_value o g
  value_sum none g h = sum_zero n (λ y. 0) (λ y l. refl)
  value_sum (some d) g h = sum_same n (λ y. value_if (eqb d y) (g y)) (λ y. value_if (eqb d y) (g d)) (λ y l. go y (ℕ_discrete d y)) ∙ pick_value n d (g d) (h d refl)
    where
      go : (y : ℕ) → Dec (d ≡ y) → value_if (eqb d y) (g y) ≡ value_if (eqb d y) (g d)
      go y (yes e) = rw (← e)
      go y (no ne) = rw (ne_eqb d y ne)

  -- Of two neighbours one is the other's default, and not both.
  edge_value : (x y : ℕ) → x < n → y < n → value_if (neighbours F x y) (w x y) ≡ value_at (f x) y (w x y) + value_at (f y) x (w x y)
  edge_value x y hx hy = go (neighbours F x y) refl
    where
      hit : (o : Option ℕ) (z m : ℕ) → o ≡ some z → value_at o z m ≡ m
      hit none z m e = absurd (none≢some none z refl e)
      hit (some d) z m e = rw (eq-eqb d z (some_same e))

      miss : (o : Option ℕ) (z m : ℕ) → ¬ (o ≡ some z) → value_at o z m ≡ 0
      miss none z m n = refl
      miss (some d) z m n = rw (ne_eqb d z (λ e. n (ap {B = Option ℕ} some e)))

      go : (b : Bool) → neighbours F x y ≡ b → value_if b (w x y) ≡ value_at (f x) y (w x y) + value_at (f y) x (w x y)
      go true e =
          elim (neighbours_point n lean F x y hx hy M I (neighbours_hold F x y e)) [
            | inl q ↦ omega (arith, hit (f x) y (w x y) q, miss (f y) x (w x y) (point_once n lean F x y hx hy q))
            | inr q ↦ omega (arith, miss (f x) y (w x y) (λ r. point_once n lean F x y hx hy r q), hit (f y) x (w x y) q)
          ]
      go false e =
          omega (
            arith,
            miss (f x) y (w x y) (λ q. let (_, N) = points_to_some n lean F x y q in true≢false (sym (neighbours_true F x y (N.mate, N.step)) ∙ e)),
            miss (f y) x (w x y) (λ q. let (_, N) = points_to_some n lean F y x q in true≢false (sym (neighbours_true F x y (sym N.mate, M.flip x y (sym N.mate) ∙ N.step)) ∙ e)),
          )

  -- So the sum over neighbours is twice the sum over defaults.
  pub around-falls : around_sum n w F ≡ 2 * fall_sum n w f
  around-falls =
      let below : (x d : ℕ) → f x ≡ some d → d < n = λ x d e. (points_to_some n lean F x d e).0 in
      let one = sum_same n (λ x. sum n (λ y. value_at (f x) y (w x y))) (λ x. default_value (f x) (w x)) (λ x hx. value_sum (f x) (w x) (below x)) in
      let two =
      sum_swap n n (λ x y. value_at (f y) x (w x y))
      ∙ sum_same n (λ y. sum n (λ x. value_at (f y) x (w x y))) (λ y. default_value (f y) (w y))
      (λ y hy. sum_same n (λ x. value_at (f y) x (w x y)) (λ x. value_at (f y) x (w y x)) (λ x hx. ap (value_at (f y) x) (symmetric x y)) ∙ value_sum (f y) (w y) (below y)) in
      sum_same n _ _ (λ x hx. sum_same n _ _ (λ y hy. edge_value x y hx hy) ∙ sum_add n (λ y. value_at (f x) y (w x y)) (λ y. value_at (f y) x (w x y)))
      ∙ sum_add n (λ x. sum n (λ y. value_at (f x) y (w x y))) (λ x. sum n (λ y. value_at (f y) x (w x y)))
      ∙ omega (arith, one, two)
