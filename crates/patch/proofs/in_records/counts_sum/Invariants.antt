-- The loop's invariant: the total is the sum of the first i counts.
use mathlib.Core.Path.{◌≡◌}
use Prim.Native.Nat.{◌*◌, ◌-◌, ◌≤◌}
use Rattle.paper.specs.Below.{sum}
use Rattle.paper.specs.Patch.{count}
use Rattle.patch.proofs.in_records.counts_sum.Given as goal

abbrev pub invariant-loop-i : goal.invariant-loop-i
invariant-loop-i l = (l.total ≡ sum l.i (count l.x)) × (l.total ≤ 65535 * l.i)
