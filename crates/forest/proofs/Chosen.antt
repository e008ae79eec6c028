-- With each tree turned to its root, the parents are the defaults of the definition.
use mathlib.Core.Path.{◌≡◌, sym, ◌∙◌, ap, subst}
use mathlib.Core.List.{List}
use mathlib.Core.Logic.{inl, inr}
use Prim.Native.Nat.{ℕ, ◌-◌, ◌≤◌, ◌<◌}
use native.Mathlib.Omega.{arith}
use native.Mathlib.Decide.{ℕ_discrete}
use lib.ListN.{get_or}
use borrow.Author.Tests.{eq-eqb, ne_eqb}
use Rattle.paper.specs.Forest.{Trees, weight, singles, falling, rest, lean, root, points_to, forest, toward_root}
use Rattle.trees.proofs.Metric.{Metric, Nearer}
use Rattle.trees.proofs.Inside.{Inside}
use Rattle.trees.proofs.Roots.{root_of}
use Rattle.trees.proofs.Points.{some_points_to, points_to-root}
use Rattle.joining.specs.Filled.{Replaced}
use Rattle.joining.specs.Rooted.{Rooted}
use Rattle.weights.specs.Weighed.{weight_in}
use Rattle.weights.specs.Chosen.{Stands}
use Rattle.greedy.specs.Good.{Good, Becomes}
use Rattle.forest.specs.Single.{Single}
use Rattle.forest.specs.Settled.{Settled, Settles}
use Rattle.forest.specs.Chosen.{FindsRoots}
use Rattle.forest.proofs.Falling.{falling_same}

module _ (n : ℕ) (few : n ≤ 512) (F : Trees) (M : Metric F) (I : Inside n F) (far parent tree chosen : List ℕ) (S : Settled n F far parent tree n)
    (P : Replaced (λ x. x) 65535 parent chosen n) (s : ℕ) (sb : s < n) where
  -- The parents lead to the root of the state's tree.
  to_root : Rooted F parent (root n (lean n) F s)
  to_root = let R = root_of n (lean n) F s sb in S.roots (root n (lean n) F s) R.below R.below R.first

  -- A state other than the root has its nearer neighbour as its parent.
  up : ¬ (s ≡ root n (lean n) F s) → Nearer F s (root n (lean n) F s) (get_or parent s 0)
  up ne = to_root.up s (sym (root_of n (lean n) F s sb).mate) ne

  -- A root is its own parent.
  chosen-root : s ≡ root n (lean n) F s → get_or chosen s 0 ≡ 65535
  chosen-root e =
      let own : get_or parent s 0 ≡ s = ap (λ (x : ℕ). get_or parent x 0) e ∙ to_root.own ∙ sym e in
      P.done s sb ∙ rw (eq-eqb (get_or parent s 0) s own)

  -- No other state is.
  chosen_other : ¬ (s ≡ root n (lean n) F s) → get_or chosen s 0 ≡ get_or parent s 0
  chosen_other ne =
      let other : ¬ (get_or parent s 0 ≡ s) = λ e. omega (arith, (up ne).less, ap (λ (x : ℕ). F.distance x (root n (lean n) F s)) e) in
      P.done s sb ∙ rw (ne_eqb (get_or parent s 0) s other)

  -- What is chosen is the default.
  pub chosen_points : Stands n (points_to n (lean n) F s) (get_or chosen s 0)
  chosen_points =
      elim (ℕ_discrete s (root n (lean n) F s)) [
        | yes e ↦ record { default_is = rw (chosen-root e) (sym (points_to-root n (lean n) F M I s sb e)); state_is = inl (chosen-root e) }
        | no ne ↦
            let N = up ne in
            let below : get_or parent s 0 < n = I s (get_or parent s 0) sb N.mate in
            record {
              default_is = rw (chosen_other ne, ne_eqb (get_or parent s 0) 65535 (λ e. omega arith)) (sym (some_points_to n (lean n) F M I s sb (get_or parent s 0) N));
              state_is = inr (rw (chosen_other ne) below);
            }
      ]

-- Over the weights of a table the pairs taken make its forest of single states, and settled and pointed it gives the defaults.
pub chosen-defaults : (n k order D : ℕ) → n ≤ 512 → (weights far₀ parent₀ tree₀ far parent tree settled chosen : List ℕ)
    → Single far₀ parent₀ tree₀ → Becomes n D (falling n (rest order n) D (weight_in weights) (k - 1)) far₀ parent₀ tree₀ far parent tree
    → Settles n far parent tree settled n → Replaced (λ x. x) 65535 settled chosen n → FindsRoots n k order D weights chosen
unfolding forest toward_root
chosen-defaults n k order D few weights far₀ parent₀ tree₀ far parent tree settled chosen S B T P t en ek W =
    let all : falling n (rest order n) D (weight_in weights) (k - 1) singles ≡ forest t order D =
    falling_same n (weight_in weights) (weight t) (λ u v uv vb. W u v uv vb (omega arith)) (rest order n) D (k - 1) singles ∙ rw (en, ek) in
    let G : Good n D (forest t order D) far parent tree = rw all at (B.good singles (S.good n D few)) in
    let F = forest t order D in
    let M = G.grown.metric in
    let I = G.grown.inside in
    λ s sb.
    subst (λ (m : ℕ). Stands n (points_to m (lean m) F s) (get_or chosen s 0)) en (chosen_points n few F M I far settled tree chosen (T.settled F M I G.held) P s sb)
