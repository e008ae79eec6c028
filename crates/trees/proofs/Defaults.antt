-- The defaults of a table with path bound D: they are states, and their chains end after at most D halved and rounded up.
use mathlib.Core.Path.{◌≡◌, refl}
use mathlib.Core.List.{List}
use mathlib.Core.Option.{some}
use Prim.Native.Nat.{ℕ, ◌+◌, ◌/◌, ◌≤◌, ◌<◌}
use native.Mathlib.Omega.{arith}
use Rattle.paper.specs.Table.{states}
use Rattle.paper.specs.View.{View, chain, depth_of}
use Rattle.paper.specs.Results.{table_view}
use Rattle.paper.specs.Forest.{longest, root, lean, forest, toward_root}
use Rattle.paper.specs.Sentences.{Ends}
use Rattle.paper.proofs.Below.{largest_least}
use Rattle.paper.proofs.Chain.{chain-ends}
use Rattle.paper.proofs.Stated.{ends_once}
use Rattle.trees.proofs.Grown.{forest_grown}
use Rattle.trees.proofs.Points.{points_to_some}
use Rattle.trees.proofs.Longest.{longest_mate}
use Rattle.trees.proofs.Radius.{root_distance}
use Rattle.trees.proofs.Depth.{chain_distance, chain_attained}

-- A default is a state below n.
pub defaults_below : (t : List ℕ) (order D s d : ℕ) → toward_root t order D s ≡ some d → d < states t
unfolding toward_root
defaults_below t order D s d e = (points_to_some (states t) (lean (states t)) (forest t order D) s d e).0

module _ (t : List ℕ) (order D : ℕ) (v : View) (same : (s : ℕ) → s < states t → v.default s ≡ toward_root t order D s) where
  -- Over a table with path bound D the chain of every state ends, and its steps are at most D halved and rounded up.
  pub defaults-chain : (s : ℕ) → s < states t → (steps : ℕ) × (chain v (states t) s ≡ some steps) × (steps ≤ (D + 1) / 2)
  unfolding toward_root
  defaults-chain s l =
      let n = states t in
      let F = forest t order D in
      let G = forest_grown t order D in (
        F.distance s (root n (lean n) F s),
        chain_distance n (lean n) F G.metric G.inside G.sized v same s l,
        omega (arith, root_distance n (lean n) F G.metric G.inside s l, G.short s),
      )

  -- In a tree no chain is longer than its longest path halved and rounded up: the centre's d is just that, and no state of the tree is farther from it.
  pub tree_chains : (x y l : ℕ) → x < states t → y < states t → (forest t order D).tree x ≡ (forest t order D).tree y → Ends v y l → l ≤ (longest (states t) (forest t order D) x + 1) / 2
  unfolding toward_root
  tree_chains x y l xb yb m E =
      let n = states t in
      let F = forest t order D in
      let G = forest_grown t order D in
      omega (
        arith,
        ends_once v n y _ l (chain_distance n (lean n) F G.metric G.inside G.sized v same y yb) E,
        root_distance n (lean n) F G.metric G.inside y yb,
        longest_mate n F x y m,
      )

  -- One is so long.
  pub tree_chain_met : (x : ℕ) → x < states t
      → (y : ℕ) × (y < states t) × ((forest t order D).tree x ≡ (forest t order D).tree y) × Ends v y ((longest (states t) (forest t order D) x + 1) / 2)
  unfolding toward_root
  tree_chain_met x xb =
      let n = states t in
      let F = forest t order D in
      let G = forest_grown t order D in
      let (y, yb, m, e) = chain_attained n (lean n) F G.metric G.inside G.sized v same x xb in
      (y, yb, m, chain-ends v n y _ e)

-- So the depth built never exceeds D halved and rounded up.
pub defaults-depth : (t : List ℕ) (order D : ℕ) → depth_of (table_view t (toward_root t order D)) ≤ (D + 1) / 2
unfolding depth_of
defaults-depth t order D =
    largest_least (states t) _ _ (λ s l.
    let (steps, e, h) = defaults-chain t order D (table_view t (toward_root t order D)) (λ x k. refl) s l in
    rw e h)
