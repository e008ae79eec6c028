-- The loop's invariant: none of the first i records is wrong.
use mathlib.Core.Path.{◌≡◌}
use mathlib.Core.Bool.{Bool, false}
use mathlib.Core.List.{List}
use Prim.Native.Nat.{ℕ, ◌+◌, ◌*◌, ◌-◌, ◌≤◌}
use Rattle.paper.specs.Below.{any}
use Rattle.paper.specs.Patch.{records_at_of}
use Rattle.image.specs.Forms.{record_at_of}
use Rattle.contents.specs.Tests.{record_wrong}
use Rattle.patch.proofs.in_records.some_record_bad.Given as goal

-- The record of a listed state is wrong.
abbrev pub wrong : List ℕ → ℕ → ℕ → ℕ → Bool
wrong x n k i = record_wrong n k (record_at_of x (records_at_of x + 4 * i))

abbrev pub invariant-loop-i : goal.invariant-loop-i
invariant-loop-i l = any l.i (wrong l.x l.n l.k) ≡ false
