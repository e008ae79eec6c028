-- The loop's invariant: the entries that the image has for the first i listed states are taken off.
use mathlib.Core.Path.{◌≡◌}
use Prim.Native.Nat.{◌+◌, ◌-◌, ◌≤◌}
use Rattle.paper.specs.Below.{sum}
use Rattle.apply.proofs.Totals.{listed_count}
use Rattle.apply.proofs.total_of.Given as goal

abbrev pub invariant-loop-i : goal.invariant-loop-i
invariant-loop-i l = (l.i ≤ l.p) × (l.total + sum l.i (listed_count l.image l.x) ≡ l.m + l.q)

abbrev pub decreases-loop-i : goal.decreases-loop-i
decreases-loop-i l = l.p - l.i
