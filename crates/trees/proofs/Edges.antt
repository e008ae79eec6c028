-- Neighbours: those that a join makes, and that of two neighbours the one is the other's default.
use mathlib.Core.Path.{◌≡◌, refl, sym, ◌∙◌, ap}
use mathlib.Core.Logic.{◌⊎◌, inl, inr}
use mathlib.Core.Option.{some}
use Prim.Native.Nat.{ℕ, ◌<◌}
use native.Mathlib.Omega.{arith}
use Rattle.paper.specs.Paths.{Crosses}
use Rattle.paper.specs.Forest.{Trees, joined, root, points_to}
use Rattle.paper.proofs.Join.{Mates}
use Rattle.paper.proofs.Bridge.{Reached, Bridge, turned, joined_bridge}
use Rattle.trees.proofs.Metric.{Metric}
use Rattle.trees.proofs.Inside.{Inside}
use Rattle.trees.proofs.JoinMetric.{over_ends}
use Rattle.trees.proofs.Roots.{root_of, root_mate}
use Rattle.trees.proofs.Points.{points_to_some, some_points_to}

-- Two neighbours in one tree.
abbrev pub Neighbours : Trees → ℕ → ℕ → Type 0
Neighbours F x y = (Mates F x y) × (F.distance x y ≡ 1)

-- Two neighbours after a join were so before, or are the ends of the pair.
over_neighbours : (F G : Trees) → Metric F → (a b : ℕ) → Bridge F G a b → (x y : ℕ) → Reached F a b x y → G.distance x y ≡ 1
    → Neighbours F x y ⊎ ((x ≡ a) × (y ≡ b))
over_neighbours F G M a b B x y (inl k) e = inl (k, sym (B.same x y k) ∙ e)
over_neighbours F G M a b B x y (inr (h, k)) e = let (p, q) = over_ends F G M a b B x y h k e in inr (p, sym q)

module _ (F : Trees) (u v : ℕ) (apart : ¬ Mates F u v) (M : Metric F) where
  -- The pair that joins two trees is one of neighbours.
  pub joined-neighbours : Neighbours (joined F u v) u v
  joined-neighbours =
      let B = joined_bridge F u v apart in
      (B.meet u v refl refl, omega (arith, B.over u v refl refl, M.self u, M.self v))

  -- All others were neighbours before.
  pub joined-neighbours_other : (x y : ℕ) → Neighbours (joined F u v) x y → Neighbours F x y ⊎ Crosses (u, v) x y
  joined-neighbours_other x y (m, e) =
      let G : Trees = joined F u v in
      let B = joined_bridge F u v apart in
      elim (B.faces x) [
        | inl s ↦ elim (over_neighbours F G M u v B x y (s y m) e) [ inl k ↦ inl k | inr k ↦ inr (inl k) ]
        | inr s ↦ elim (over_neighbours F G M v u (turned B) x y (s y m) e) [ inl k ↦ inl k | inr k ↦ inr (inr k) ]
      ]

module _ (n : ℕ) (lean : Trees → ℕ → ℕ) (F : Trees) (x y : ℕ) (xb : x < n) (yb : y < n) where
  -- Of two neighbours the one is the other's default.
  pub neighbours_point : Metric F → Inside n F → Neighbours F x y → (points_to n lean F x ≡ some y) ⊎ (points_to n lean F y ≡ some x)
  neighbours_point M I (m, e) =
      let r = root n lean F x in
      let q : r ≡ root n lean F y = root_mate n lean F x y yb m in
      let mx = (root_of n lean F x xb).mate in
      let fx = M.flip x r mx in
      let fy = M.flip y r (sym m ∙ mx) in
      elim (M.edge x y r m mx e) [
        | inl f ↦ inr (some_points_to n lean F M I y yb x (rw (← q) (record {
          mate = sym m;
          step = sym (M.flip x y m) ∙ e;
          less = omega (arith, fx, fy);
        })))
        | inr f ↦ inl (some_points_to n lean F M I x xb y (record { mate = m; step = e; less = omega (arith, fx, fy) }))
      ]

  -- Not both are.
  pub point_once : points_to n lean F x ≡ some y → ¬ (points_to n lean F y ≡ some x)
  point_once e f =
      let (l, N) = points_to_some n lean F x y e in
      let (k, K) = points_to_some n lean F y x f in
      let q : root n lean F x ≡ root n lean F y = root_mate n lean F x y yb N.mate in
      omega (arith, N.less, K.less, ap (F.distance x) q, ap (F.distance y) q)
