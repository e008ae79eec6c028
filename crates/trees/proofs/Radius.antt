-- How far the states of a tree are from its root: at most the tree's longest path halved and rounded up, and some state is so far.
use mathlib.Core.Path.{◌≡◌, sym, ◌∙◌, ap}
use Prim.Native.Nat.{ℕ, ◌+◌, ◌/◌, ◌≤◌, ◌<◌}
use native.Mathlib.Omega.{arith}
use Rattle.paper.specs.Forest.{Trees, d, longest, root}
use Rattle.paper.proofs.Join.{Mates}
use Rattle.trees.proofs.Metric.{Metric}
use Rattle.trees.proofs.Inside.{Inside}
use Rattle.trees.proofs.Farthest.{d_upper, d_attained}
use Rattle.trees.proofs.Longest.{longest_mate}
use Rattle.trees.proofs.Centre.{centre_d}
use Rattle.trees.proofs.Roots.{root_of, root_mate, root_centre}

module _ (n : ℕ) (lean : Trees → ℕ → ℕ) (F : Trees) (M : Metric F) (I : Inside n F) where
  -- The root's d is the longest path of the tree halved and rounded up.
  pub root-d : (x : ℕ) → x < n → d n F (root n lean F x) ≡ (longest n F x + 1) / 2
  root-d x l =
      let R = root_of n lean F x l in
      omega (arith, centre_d n F M I (root n lean F x) R.below (root_centre n lean F x l), longest_mate n F x _ R.mate)

  -- No state is farther from its root.
  pub root_distance : (x : ℕ) → x < n → F.distance x (root n lean F x) ≤ (longest n F x + 1) / 2
  root_distance x l =
      let R = root_of n lean F x l in
      omega (arith, root-d x l, M.flip x _ R.mate, d_upper n F (root n lean F x) x l (sym R.mate))

  -- Some state of the tree is so far from it.
  pub root_distance_attained : (x : ℕ) → x < n
      → (y : ℕ) × (y < n) × (Mates F x y) × (F.distance y (root n lean F y) ≡ (longest n F x + 1) / 2)
  root_distance_attained x l =
      let r = root n lean F x in
      let R = root_of n lean F x l in
      let (y, yb, m, e) = d_attained n F r R.below in
      let h : Mates F x y = R.mate ∙ m in
      (y, yb, h, ap (F.distance y) (sym (root_mate n lean F x y yb h)) ∙ M.flip y r (sym m) ∙ e ∙ root-d x l)
