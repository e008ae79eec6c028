-- The invariant of the loop: y stays its tree's root beside each of the states before z.
use Rattle.std.proofs.Common.{◌≡◌, true}
use Rattle.paper.specs.Below.{every}
use Rattle.forest.specs.Settled.{beside_root}
use Rattle.forest.proofs.is_root.Given as goal

abbrev pub invariant-loop-z : goal.invariant-loop-z
invariant-loop-z l = every l.z (beside_root l.d l.tree l.near l.y) ≡ true
