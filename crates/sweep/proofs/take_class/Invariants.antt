-- The loop's invariant: the class is taken from the states so far, and the cursors of the others still stand before it.
use Prim.Native.Nat.{◌-◌}
use Rattle.sweep.proofs.Taken.{Taking}
use Rattle.sweep.proofs.take_class.Given as goal

abbrev pub invariant-loop-s : goal.invariant-loop-s
invariant-loop-s l = Taking l.image l.n l.class l.s l.cursor l.own

abbrev pub decreases-loop-s : goal.decreases-loop-s
decreases-loop-s l = l.n - l.s
