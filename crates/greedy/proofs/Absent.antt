-- A weight that no pair has: its level changes nothing.
use mathlib.Core.Path.{◌≡◌}
use mathlib.Core.List.{List}
use Prim.Native.Nat.{ℕ, ◌*◌, ◌≤◌, ◌<◌}
use native.Mathlib.Omega.{arith}
use lib.ListN.{get_or}
use Rattle.paper.specs.Forest.{Trees}
use Rattle.trees.proofs.Best.{level_of, level-ends}
use Rattle.joining.specs.Held.{Whole}
use Rattle.weights.specs.Weighed.{weight_in}
use Rattle.weights.specs.Named.{Named}
use Rattle.greedy.specs.Good.{Becomes, Absent}

-- A number that has no mark is no pair's weight.
pub unseen_absent : (marks weights : List ℕ) (n w : ℕ) → n ≤ 512 → 0 < w → Named (weight_in weights) n (n * 512) marks → get_or marks w 0 ≡ 0 → Absent n (weight_in weights) w
unseen_absent marks weights n w few some N e u v uv vn q = omega (arith, rw q at (N.stands u v uv vn (omega arith)))

-- Where no pair has the weight the arrays are what they were.
pub becomes_absent : (n : ℕ) (rest : Trees → ℕ × ℕ → ℕ) (D : ℕ) (weight : ℕ → ℕ → ℕ) (w : ℕ) → Absent n weight w → (far parent tree : List ℕ) → Whole far parent tree
    → Becomes n D (level_of n rest D weight w) far parent tree far parent tree
becomes_absent n rest D weight w absent far parent tree whole =
    record {
      whole = whole;
      good = λ F G. rw (level-ends n rest D weight w F (λ q W able. absent q.0 q.1 W.rising W.inside W.heavy)) G;
    }
