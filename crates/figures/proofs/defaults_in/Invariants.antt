-- The loop's invariant: of the states before s so many have a default.
use Prim.Native.Nat.{◌-◌}
use Rattle.figures.proofs.Named.{Named}
use Rattle.figures.proofs.defaults_in.Given as goal

abbrev pub invariant-loop-s : goal.invariant-loop-s
invariant-loop-s l = Named l.image l.s l.count

abbrev pub decreases-loop-s : goal.decreases-loop-s
decreases-loop-s l = l.n - l.s
