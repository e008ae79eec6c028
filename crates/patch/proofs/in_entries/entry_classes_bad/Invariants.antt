-- The loop's invariant: no entry of the first i listed states is wrong.
use mathlib.Core.Path.{◌≡◌}
use mathlib.Core.Bool.{Bool, false}
use mathlib.Core.List.{List}
use Prim.Native.Nat.{ℕ, ◌-◌, ◌≤◌}
use Rattle.paper.specs.Below.{any}
use Rattle.paper.specs.Patch.{count, entries_part_of}
use Rattle.contents.specs.Tests.{class_wrong}
use Rattle.patch.proofs.in_entries.entry_classes_bad.Given as goal

-- The class of an entry of a part is wrong.
abbrev pub test : List ℕ → ℕ → ℕ → Bool
test row k j = class_wrong k row j

-- Some entry of a listed state is.
abbrev pub wrong : List ℕ → ℕ → ℕ → Bool
wrong x k i = any (count x i) (test (entries_part_of x i) k)

abbrev pub invariant-loop-i : goal.invariant-loop-i
invariant-loop-i l = any l.i (wrong l.x l.k) ≡ false
