-- The loop's invariant: the first x rows have the floors that they have after a join.
use Rattle.std.proofs.Common.{◌≡◌, length}
use Rattle.pairs.specs.Tie.{order_number}
use Rattle.best.proofs.Floors.{Relaxing}
use Rattle.best.proofs.relaxed.Given as goal

abbrev pub invariant-loop-x : goal.invariant-loop-x
invariant-loop-x l = record { long : length l.low ≡ 512; relaxing : Relaxing (order_number l.fn.tie) l.initial.low l.low l.x }
