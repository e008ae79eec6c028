-- The loop's invariant: the places of the listed states so far are filled, and `at` is the place of the next.
use Prim.Native.Nat.{◌-◌}
use lib.ListN.{length}
use Rattle.paper.specs.Patch.{entry_at}
use Rattle.image.proofs.Places.{Begun}
use Rattle.patch.proofs.begins_of.Given as goal

abbrev pub invariant-loop-i : goal.invariant-loop-i
invariant-loop-i l = Begun (λ i. entry_at l.x i 0) 65 (length l.x) l.p l.at l.begins l.i
