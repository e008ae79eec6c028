-- The neighbours of a state are the pairs added of which it is an end.
use mathlib.Core.Path.{◌≡◌, refl, sym, ap, ap₂, ◌∙◌}
use mathlib.Core.Bool.{Bool, true, false, ◌&&◌}
use mathlib.Core.List.{List}
use Prim.Native.Nat.{ℕ, ◌+◌, ◌≤◌, ◌<◌}
use native.Mathlib.Omega.{arith}
use lib.Dec.{eqb}
use Rattle.paper.specs.Below.{bit}
use Rattle.paper.specs.Table.{states}
use Rattle.paper.specs.Forest.{Trees, weight, singles, joined, neighbours, forest}
use Rattle.paper.specs.Roots.{pairs_at}
use Rattle.paper.proofs.Sums.{sum_same, sum_zero}
use Rattle.paper.proofs.Counts.{count_le}
use Rattle.paper.proofs.Join.{Mates}
use Rattle.trees.proofs.Metric.{Metric}
use Rattle.trees.proofs.Greedy.{forest_keeps}
use Rattle.trees.proofs.Grown.{Grown, singles_grown, added_grown}
use Rattle.trees.proofs.EdgeSums as test
use Rattle.trees.proofs.EdgeSums.{value_if, around_one}

-- A test counts as the value 1 where it passes.
value_bit : (b : Bool) → value_if b 1 ≡ bit b
value_bit true = refl
value_bit false = refl

-- A state has at most n neighbours.
pub neighbours_le : (n : ℕ) (F : Trees) (x : ℕ) → neighbours n F x ≤ n
unfolding neighbours
neighbours_le n F x = count_le n (test.neighbours F x)

-- Single states have none.
pub neighbours-singles : (n x : ℕ) → neighbours n singles x ≡ 0
unfolding neighbours singles
neighbours-singles n x = sum_zero n _ (λ y l. none (eqb x y))
  where
    none : (b : Bool) → bit (b && false) ≡ 0
    none true = refl
    none false = refl

-- A join gives each end of the pair one more.
pub neighbours-joined : (n : ℕ) (F : Trees) (u v : ℕ) → ¬ Mates F u v → Metric F → u < n → v < n → (x : ℕ)
    → neighbours n (joined F u v) x ≡ neighbours n F x + (bit (eqb u x) + bit (eqb v x))
unfolding neighbours
neighbours-joined n F u v apart M ub vb x =
    sum_same n _ _ (λ y l. sym (value_bit (test.neighbours (joined F u v) x y)))
    ∙ around_one n (λ a b. 1) (λ a b. refl) F u v apart M ub vb x
    ∙ ap₂ ◌+◌ (sum_same n _ _ (λ y l. value_bit (test.neighbours F x y))) (ap₂ ◌+◌ (value_bit (eqb u x)) (value_bit (eqb v x)))

-- No pair was added to single states.
singles_pairs : (x : ℕ) → pairs_at x singles.added ≡ 0
unfolding singles
singles_pairs x = refl

-- A join adds one.
joined_pairs : (F : Trees) (u v x : ℕ) → pairs_at x (joined F u v).added ≡ pairs_at x F.added + (bit (eqb u x) + bit (eqb v x))
unfolding joined
joined_pairs F u v x = refl

-- In the forest of a table a state has as many neighbours as pairs were added of which it is an end.
pub neighbours_added : (t : List ℕ) (order D x : ℕ) → neighbours (states t) (forest t order D) x ≡ pairs_at x (forest t order D).added
neighbours_added t order D x =
    let n = states t in
    (forest_keeps t order D (λ F. (Grown n D F) × (neighbours n F x ≡ pairs_at x F.added))
    (λ F u v P A. (
      added_grown n D (weight t) F u v P.0 A,
      neighbours-joined n F u v A.apart P.0.metric (omega (arith, A.rising, A.inside)) A.inside x
          ∙ ap (λ (k : ℕ). k + (bit (eqb u x) + bit (eqb v x))) P.1 ∙ sym (joined_pairs F u v x),
    ))
    (singles_grown n D, neighbours-singles n x ∙ sym (singles_pairs x))
    ).1
