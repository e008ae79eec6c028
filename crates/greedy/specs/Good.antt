-- Trees within the bound, held in arrays, and what the pairs taken make of them.
use Rattle.std.specs.Prelude.{◌≡◌, List, ℕ, ◌<◌}
use Rattle.paper.specs.Forest.{Trees}
use Rattle.trees.proofs.Grown.{Grown}
use Rattle.joining.specs.Held.{Held, Whole}

-- The arrays hold the trees F of n states, in which no path is longer than D.
pub record Good (n D : ℕ) (F : Trees) (far parent tree : List ℕ) : Type 0 where
  pub grown : Grown n D F
  pub held : Held n F far parent tree

-- Whatever such trees the arrays held before, they hold now what is made of them.
pub record Becomes (n D : ℕ) (made : Trees → Trees) (far₀ parent₀ tree₀ far parent tree : List ℕ) : Type 0 where
  pub whole : Whole far parent tree
  pub good : (F : Trees) → Good n D F far₀ parent₀ tree₀ → Good n D (made F) far parent tree

-- No pair has the weight w.
abbrev pub Absent : ℕ → (ℕ → ℕ → ℕ) → ℕ → Type 0
Absent n weight w = (u v : ℕ) → u < v → v < n → ¬ (weight u v ≡ w)
