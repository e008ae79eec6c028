-- The loop's invariant: none of the first j entries is wrong.
use mathlib.Core.Path.{◌≡◌}
use mathlib.Core.Bool.{false}
use Prim.Native.Nat.{◌≤◌, ◌-◌, ◌/◌}
use lib.ListN.{length}
use Rattle.paper.specs.Below.{any}
use Rattle.contents.specs.Tests.{class_wrong}
use Rattle.contents.proofs.in_entries.row_bad.Given as goal

abbrev pub invariant-loop-j : goal.invariant-loop-j
invariant-loop-j l = any l.j (class_wrong l.k l.row) ≡ false
