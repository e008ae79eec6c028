-- The forest as three loops, over falling weights, first states and second states: what the taking of the best pair comes to in this paper's order.
use Rattle.std.specs.Prelude.{cond, ℕ, zero, suc, ltb, eqb}
use Rattle.paper.specs.Forest.{Trees, added_or_dropped}

module _ (n D : ℕ) where
  module _ (weight : ℕ → ℕ → ℕ) (w : ℕ) where
    -- One pair in its turn: looked at where the first state is below the second and the weight is w.
    abbrev pub looked : Trees → ℕ → ℕ → Trees
    looked F u v = cond (ltb u v) (cond (eqb (weight u v) w) (added_or_dropped n D F (u, v)) F) F

    -- The pairs (u, 0) to (u, j - 1).
    abbrev pub row : ℕ → Trees → ℕ → Trees
    row u F zero = F
    row u F (suc j) = looked (row u F j) u j

    -- The rows 0 to i - 1.
    abbrev pub rows : Trees → ℕ → Trees
    rows F zero = F
    rows F (suc i) = row i (rows F i) n

  -- Level by level from w down to 1.
  abbrev pub levels : (ℕ → ℕ → ℕ) → ℕ → Trees → Trees
  levels weight zero F = F
  levels weight (suc w) F = levels weight w (rows weight (suc w) F n)
