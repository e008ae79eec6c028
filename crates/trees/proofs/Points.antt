-- Defaults point to the root: a root has none, and any other state's is its neighbour one step nearer to the root.
use mathlib.Core.Path.{◌≡◌, refl, ap}
use mathlib.Core.Bool.{Bool, true, false}
use mathlib.Core.Option.{Option, none, some}
use Prim.Native.Nat.{ℕ, ◌+◌, ◌<◌}
use native.Mathlib.Omega.{arith}
use lib.Dec.{eqb}
use borrow.Author.Tests.{eq-eqb, eqb-true}
use Rattle.paper.specs.Below.{when}
use Rattle.paper.specs.Forest.{Trees, root, nearer, points_to}
use Rattle.paper.proofs.Below.{and_true, first_of_one, first_of_some}
use Rattle.trees.proofs.Metric.{Metric, Nearer, nearer_one}
use Rattle.trees.proofs.Inside.{Inside}
use Rattle.trees.proofs.Roots.{root_of}

module _ (n : ℕ) (lean : Trees → ℕ → ℕ) (F : Trees) where
  -- The test of a nearer neighbour passes for one.
  nearer_true : (r x y : ℕ) → Nearer F x r y → nearer n lean F r x y ≡ true
  nearer_true r x y N =
      rw (eq-eqb (F.tree x) (F.tree y) N.mate, eq-eqb (F.distance x y) 1 N.step, eq-eqb (F.distance y r + 1) (F.distance x r) N.less)

  -- And for none else.
  true_nearer : (r x y : ℕ) → nearer n lean F r x y ≡ true → Nearer F x r y
  true_nearer r x y t =
      let (m, s) = and_true (eqb (F.tree x) (F.tree y)) _ t in
      let (e, l) = and_true (eqb (F.distance x y) 1) _ s in
      record { mate = eqb-true _ _ m; step = eqb-true _ _ e; less = eqb-true _ _ l }

  -- A default is below n, a neighbour of its state, and one step nearer to the root.
  pub points_to_some : (x y : ℕ) → points_to n lean F x ≡ some y → (y < n) × (Nearer F x (root n lean F x) y)
  unfolding points_to
  points_to_some x y e =
      let (z, l, h) = first_of_some (λ z. when (nearer n lean F (root n lean F x) x z) z) n y e in
      given z l (nearer n lean F (root n lean F x) x z) refl h
    where
      given : (z : ℕ) → z < n → (b : Bool) → nearer n lean F (root n lean F x) x z ≡ b → when b z ≡ some y
          → (y < n) × (Nearer F x (root n lean F x) y)
      given z l true t h = let q : z ≡ y = cc in rw (← q) (l, true_nearer (root n lean F x) x z t)
      given z l false t h = let q : ◌≡◌ {A = ℕ} 0 1 = cc in absurd (omega arith)

  module _ (M : Metric F) (I : Inside n F) (x : ℕ) (l : x < n) where
    -- The neighbour of a state one step nearer to the root is its default.
    pub some_points_to : (y : ℕ) → Nearer F x (root n lean F x) y → points_to n lean F x ≡ some y
    unfolding points_to
    some_points_to y N =
        let r = root n lean F x in
        first_of_one n y (nearer n lean F r x) (I x y l N.mate) (nearer_true r x y N)
        (λ z zb t. nearer_one F M x r z y (root_of n lean F x l).mate (true_nearer r x z t) N)

    -- A root has no default.
    pub points_to-root : x ≡ root n lean F x → points_to n lean F x ≡ none
    points_to-root e = absent (points_to n lean F x) refl
      where
        absent : (o : Option ℕ) → points_to n lean F x ≡ o → o ≡ none
        absent none q = refl
        absent (some y) q = absurd (omega (arith, (points_to_some x y q).1.less, M.self x, ap (F.distance x) e))

    -- Any other state has one.
    pub points_to_other : ¬ (x ≡ root n lean F x) → (y : ℕ) × (points_to n lean F x ≡ some y) × (Nearer F x (root n lean F x) y)
    points_to_other ne =
        let (y, N) = M.near x (root n lean F x) (root_of n lean F x l).mate ne in
        (y, some_points_to y N, N)
