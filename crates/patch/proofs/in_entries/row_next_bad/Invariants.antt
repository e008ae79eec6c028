-- The loop's invariant: none of the first j next states is wrong.
use mathlib.Core.Path.{◌≡◌}
use mathlib.Core.Bool.{Bool, false}
use mathlib.Core.List.{List}
use Prim.Native.Nat.{ℕ, ◌+◌, ◌*◌, ◌-◌, ◌/◌, ◌≤◌}
use lib.Dec.{leb}
use lib.ListN.{length}
use Rattle.paper.specs.Below.{any}
use Rattle.paper.specs.Words.{number16}
use Rattle.patch.proofs.in_entries.row_next_bad.Given as goal

-- The next state of an entry is not below n.
abbrev pub wrong : List ℕ → ℕ → ℕ → Bool
wrong row n j = leb n (number16 row (4 * j + 2))

abbrev pub invariant-loop-j : goal.invariant-loop-j
invariant-loop-j l = any l.j (wrong l.row l.n) ≡ false
