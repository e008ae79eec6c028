-- The plain walk over two parts.
use mathlib.Core.Path.{◌≡◌, refl}
use mathlib.Core.List.{List, [], ◌∷◌, ◌++◌}
use Prim.Native.Nat.{ℕ}
use Rattle.paper.specs.Walk.{state_after}

module _ (to : ℕ → ℕ → ℕ) where
  -- The second goes on where the first has come to.
  pub state_append : (xs ys : List ℕ) (s : ℕ) → state_after to s (xs ++ ys) ≡ state_after to (state_after to s xs) ys
  state_append [] ys s = refl
  state_append (x ∷ xs) ys s = state_append xs ys (to s x)
