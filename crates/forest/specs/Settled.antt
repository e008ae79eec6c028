-- The root of each tree, by the arrays, and the trees turned to their roots.
use Rattle.std.specs.Prelude.{◌≡◌, Bool, true, cond, ◌&&◌, ◌||◌, List, ℕ, ◌<◌, ltb, leb, eqb, get_or}
use Rattle.paper.specs.Below.{every}
use Rattle.paper.specs.Forest.{Trees, lean, is_root_of}
use Rattle.trees.proofs.Metric.{Metric}
use Rattle.trees.proofs.Inside.{Inside}
use Rattle.joining.specs.Rooted.{Low, Rooted}
use Rattle.joining.specs.Held.{Held}

-- Of two states the one, if both are of one tree, goes before the other as a root: by smaller d, with equal d by more neighbours, with equally many by the smaller number.
abbrev pub stays_root_of : ℕ → ℕ → ℕ → ℕ → ℕ → ℕ → ℕ → ℕ → Bool
stays_root_of ty tz dy dz ny nz y z = cond (eqb ty tz) (ltb dy dz || (eqb dy dz && (ltb nz ny || (eqb nz ny && leb y z)))) true

-- The same by the arrays.
abbrev pub beside_root : List ℕ → List ℕ → List ℕ → ℕ → ℕ → Bool
beside_root far tree near y z = stays_root_of (get_or tree y 0) (get_or tree z 0) (get_or far y 0) (get_or far z 0) (get_or near y 0) (get_or near z 0) y z

-- By the arrays the state y is its tree's root.
abbrev pub root_in : List ℕ → List ℕ → List ℕ → ℕ → ℕ → Bool
root_in far tree near n y = every n (beside_root far tree near y)

-- The trees are held, and the parents lead to each root below i.
pub record Settled (n : ℕ) (F : Trees) (far parent tree : List ℕ) (i : ℕ) : Type 0 where
  pub held : Held n F far parent tree
  pub roots : (r : ℕ) → r < i → r < n → is_root_of n (lean n) F r ≡ true → Rooted F parent r

-- Whatever trees the arrays held, with the new parents those below i are settled.
pub record Settles (n : ℕ) (far old tree new : List ℕ) (i : ℕ) : Type 0 where
  pub low : Low new
  pub settled : (F : Trees) → Metric F → Inside n F → Held n F far old tree → Settled n F far new tree i
