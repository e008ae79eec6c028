-- The forest of a table: its distances are those of trees, its states are below n, and no tree has a path longer than D.
use mathlib.Core.List.{List}
use Prim.Native.Nat.{ℕ, ◌≤◌, ◌<◌}
use native.Mathlib.Omega.{arith}
use native.Mathlib.Decide.{ℕ_discrete}
use Rattle.paper.specs.Table.{states}
use Rattle.paper.specs.Forest.{Trees, weight, singles, longest, forest}
use Rattle.trees.proofs.Metric.{Metric, singles_metric}
use Rattle.trees.proofs.JoinMetric.{joined_metric}
use Rattle.trees.proofs.Inside.{Inside, singles_inside, joined_inside}
use Rattle.trees.proofs.Named.{Named, singles_named, joined_named}
use Rattle.trees.proofs.Longest.{longest_least, joined-longest_first, joined-longest_second, joined-longest_other}
use Rattle.trees.proofs.Size.{Sized, singles_sized, joined_sized}
use Rattle.trees.proofs.Greedy.{Keeps, forest_keeps}

-- Trees over the states below n in which no path is longer than D: distances are as in trees, no tree reaches past n or has fewer states
-- than a path of it, and each tree's number is one of its states.
pub record Grown (n D : ℕ) (F : Trees) : Type 0 where
  pub metric : Metric F
  pub inside : Inside n F
  pub sized : Sized n F
  pub named : Named F
  pub short : (x : ℕ) → longest n F x ≤ D

-- Single states are such trees.
pub singles_grown : (n D : ℕ) → Grown n D singles
unfolding singles
singles_grown n D =
    record {
      metric = singles_metric;
      inside = singles_inside n;
      sized = singles_sized n;
      named = singles_named;
      short = λ x. longest_least n singles x D (λ y z yb zb h k. omega arith);
    }

-- Each pair added keeps that.
pub added_grown : (n D : ℕ) (weight : ℕ → ℕ → ℕ) → Keeps n D weight (Grown n D)
added_grown n D weight F u v g A =
    let M = g.metric in
    let ub : u < n = omega (arith, A.rising, A.inside) in
    let vb = A.inside in
    record {
      metric = joined_metric F u v A.apart M;
      inside = joined_inside n F u v A.apart ub vb g.inside;
      sized = joined_sized n F u v A.apart ub vb g.sized;
      named = joined_named F u v A.apart g.named;
      short = λ x. elim (ℕ_discrete (F.tree u) (F.tree x)) [
        | yes h ↦ omega (arith, joined-longest_first n F u v A.apart M ub vb x h, A.short)
        | no h ↦ elim (ℕ_discrete (F.tree v) (F.tree x)) [
          | yes k ↦ omega (arith, joined-longest_second n F u v A.apart M ub vb x k, A.short)
          | no k ↦ omega (arith, joined-longest_other n F u v A.apart x h k, g.short x)
        ]
      ];
    }

-- The forest of a table with path bound D is such trees.
pub forest_grown : (t : List ℕ) (order D : ℕ) → Grown (states t) D (forest t order D)
forest_grown t order D =
    forest_keeps t order D (Grown (states t) D) (added_grown (states t) D (weight t)) (singles_grown (states t) D)
