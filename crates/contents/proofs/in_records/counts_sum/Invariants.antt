-- The loop's invariant: the total is the sum of the first s counts.
use mathlib.Core.Path.{◌≡◌}
use Prim.Native.Nat.{◌≤◌, ◌-◌, ◌*◌}
use Rattle.paper.specs.Below.{sum}
use Rattle.paper.specs.Image.{count}
use Rattle.contents.proofs.in_records.counts_sum.Given as goal

abbrev pub invariant-loop-s : goal.invariant-loop-s
invariant-loop-s l = (l.total ≡ sum l.s (count l.b)) × (l.total ≤ 65535 * l.s)
