-- The loop's invariant: the first i listed states have their places, counted from 1, over zeros.
use Prim.Native.Nat.{◌+◌, ◌-◌, ◌≤◌}
use lib.ListN.{replicate}
use Rattle.patch.proofs.Over.{Over}
use Rattle.patch.proofs.slots_of.Given as goal

abbrev pub invariant-loop-i : goal.invariant-loop-i
invariant-loop-i l = Over l.x (λ i. i + 1) (replicate 512 0) l.slots l.i
