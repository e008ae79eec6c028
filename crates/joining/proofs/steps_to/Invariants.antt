-- The invariant of the climb: after k steps it stands at a place of the array that is k steps nearer to r.
use Rattle.std.proofs.Common.{◌<◌}
use Rattle.joining.proofs.Climbing.{Climbing}
use Rattle.joining.proofs.steps_to.Given as goal

abbrev pub invariant-loop-k : goal.invariant-loop-k
invariant-loop-k l = record { place : l.at < 512; nearer : Climbing l.parent l.x l.r l.at l.k }
