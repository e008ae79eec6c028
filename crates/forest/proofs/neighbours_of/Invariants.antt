-- The invariant of the loop: the first x states have counted.
use Rattle.std.proofs.Common.{◌≡◌, length}
use Rattle.forest.specs.Beside.{NeighboursIn}
use Rattle.forest.proofs.neighbours_of.Given as goal

abbrev pub invariant-loop-x : goal.invariant-loop-x
invariant-loop-x l = record { long : length l.near ≡ 512; counted : NeighboursIn l.parent l.near l.x }
