-- The forest's distances are true: they are the lengths of the paths over the pairs added, d is the longest of them from a state, and the longest path of a tree the longest in it.
use mathlib.Core.Path.{◌≡◌, sym, ◌∙◌}
use mathlib.Core.List.{List}
use Prim.Native.Nat.{ℕ, ◌≤◌, ◌<◌}
use native.Mathlib.Omega.{arith}
use lib.ListN.{length}
use Rattle.paper.specs.Forest.{Trees, d, longest, forest}
use Rattle.paper.specs.Paths.{Path, TrueDistances}
use Rattle.paper.proofs.Join.{Mates}
use Rattle.paper.proofs.Distances.{singles_true, joined_true}
use Rattle.trees.proofs.Farthest.{d_upper, d_attained}
use Rattle.trees.proofs.Longest.{longest_upper, longest_attained}
use Rattle.trees.proofs.Greedy.{forest_keeps}

-- The distances of the forest of a table with path bound D.
pub distances_true : (t : List ℕ) (order D : ℕ) → TrueDistances (forest t order D)
distances_true t order D = forest_keeps t order D TrueDistances (λ F u v T A. joined_true F T u v A.apart) singles_true

module _ (F : Trees) (T : TrueDistances F) (n x : ℕ) where
  -- No path from x that takes no pair twice is longer than d.
  pub d_paths : (y : ℕ) (ps : List (ℕ × ℕ)) → y < n → Path F.added x y ps → length ps ≤ d n F x
  d_paths y ps l P = let (m, e) = T.all x y ps P in omega (arith, d_upper n F x y l m)

  -- One is so long.
  pub d_path : x < n → (y : ℕ) × (ps : List (ℕ × ℕ)) × (y < n) × (Path F.added x y ps) × (length ps ≡ d n F x)
  d_path l =
      let (y, yb, m, e) = d_attained n F x l in
      let (ps, P, q) = T.way x y m in
      (y, ps, yb, P, q ∙ e)

  -- No path of x's tree that takes no pair twice is longer than the tree's longest.
  pub longest_paths_lem : (y z : ℕ) (ps : List (ℕ × ℕ)) → y < n → z < n → Mates F x y → Path F.added y z ps → length ps ≤ longest n F x
  longest_paths_lem y z ps yb zb h P = let (m, e) = T.all y z ps P in omega (arith, longest_upper n F x y z yb zb h (h ∙ m))

  -- One is so long.
  pub longest_path : x < n → (y : ℕ) × (z : ℕ) × (ps : List (ℕ × ℕ)) × (y < n) × (z < n) × (Mates F x y) × (Path F.added y z ps) × (length ps ≡ longest n F x)
  longest_path l =
      let (y, z, yb, zb, h, k, e) = longest_attained n F x l in
      let (ps, P, q) = T.way y z (sym h ∙ k) in
      (y, z, ps, yb, zb, h, P, q ∙ e)
