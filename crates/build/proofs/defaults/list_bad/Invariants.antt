-- The loop's invariant: no value before that of state s is wrong.
use mathlib.Core.Path.{◌≡◌}
use mathlib.Core.Bool.{Bool, false}
use mathlib.Core.List.{List}
use Prim.Native.Nat.{ℕ, ◌-◌, ◌≤◌}
use Rattle.paper.specs.Below.{any}
use Rattle.paper.specs.View.{default_bad_of}
use Rattle.paper.specs.Operations.{listed}
use Rattle.build.proofs.defaults.list_bad.Given as goal

-- The value of state s is wrong.
abbrev pub wrong : List ℕ → ℕ → ℕ → Bool
wrong ds n s = default_bad_of n (listed ds s)

abbrev pub invariant-loop-s : goal.invariant-loop-s
invariant-loop-s l = (l.s ≤ l.n) × (any l.s (wrong l.ds l.n) ≡ false)

abbrev pub decreases-loop-s : goal.decreases-loop-s
decreases-loop-s l = l.n - l.s
