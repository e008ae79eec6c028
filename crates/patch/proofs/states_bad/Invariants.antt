-- The loop's invariant: none of the first i listed states is wrong.
use mathlib.Core.Path.{◌≡◌}
use mathlib.Core.Bool.{Bool, false, ◌||◌}
use mathlib.Core.List.{List}
use Prim.Native.Nat.{ℕ, ◌-◌, ◌≤◌}
use lib.Dec.{leb}
use Rattle.paper.specs.Below.{any}
use Rattle.paper.specs.Patch.{state_at_of, state_falls}
use Rattle.patch.proofs.states_bad.Given as goal

-- A listed state is wrong.
abbrev pub wrong : List ℕ → ℕ → ℕ → Bool
wrong x n i = state_falls x i || leb n (state_at_of x i)

abbrev pub invariant-loop-i : goal.invariant-loop-i
invariant-loop-i l = any l.i (wrong l.x l.n) ≡ false
