-- The loop's invariant: no entry of the first i listed states is wrong.
use mathlib.Core.Path.{◌≡◌}
use mathlib.Core.Bool.{Bool, false}
use mathlib.Core.List.{List}
use Prim.Native.Nat.{ℕ, ◌+◌, ◌*◌, ◌-◌, ◌≤◌}
use Rattle.paper.specs.Below.{any}
use Rattle.paper.specs.Patch.{count, entries_part_of}
use lib.Dec.{leb}
use Rattle.paper.specs.Words.{number16}
use Rattle.patch.proofs.in_entries.next_bad.Given as goal

-- The next state of an entry of a part is not below n.
abbrev pub test : List ℕ → ℕ → ℕ → Bool
test row n j = leb n (number16 row (4 * j + 2))

-- Some entry of a listed state is.
abbrev pub wrong : List ℕ → ℕ → ℕ → Bool
wrong x n i = any (count x i) (test (entries_part_of x i) n)

abbrev pub invariant-loop-i : goal.invariant-loop-i
invariant-loop-i l = any l.i (wrong l.x l.n) ≡ false
