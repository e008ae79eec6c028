-- The loop's invariant: the rows of the first i listed states are the patch's, the others the image's, and `at` is where the entries of the next begin.
use Prim.Native.Nat.{◌-◌}
use Rattle.overlaid.proofs.Rows.{Laying}
use Rattle.overlaid.proofs.open_rows.Given as goal

abbrev pub invariant-loop-i : goal.invariant-loop-i
invariant-loop-i l = Laying l.image l.x l.n l.p l.initial.up l.initial.place l.initial.left l.initial.wait l.at l.i l.up l.place l.left l.wait

abbrev pub decreases-loop-i : goal.decreases-loop-i
decreases-loop-i l = l.p - l.i
