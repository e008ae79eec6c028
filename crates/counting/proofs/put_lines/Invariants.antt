-- The loop's invariant: the lines of the states before s are put, and take 33 bytes each at most.
use Rattle.std.proofs.Common.{◌≡◌, ◌++◌, ◌+◌, ◌*◌, ◌≤◌, length}
use Rattle.paper.specs.Below.{each}
use Rattle.counting.specs.Columns.{columns_line}
use Rattle.counting.proofs.put_lines.Given as goal

abbrev pub invariant-loop-s : goal.invariant-loop-s
invariant-loop-s g l = (length l.text ≤ length l.fn.text + 33 * l.s) × (l.text ≡ l.fn.text ++ each l.s (columns_line l.served l.ran))
