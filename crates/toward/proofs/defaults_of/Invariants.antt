-- The invariant of the loop: the states before x have their defaults.
use Rattle.std.proofs.Common.{◌≡◌, length}
use Rattle.paper.specs.FallBack.{toward_start}
use Rattle.toward.proofs.Chosen.{ChosenTo}
use Rattle.toward.proofs.defaults_of.Given as goal

abbrev pub invariant-loop-x : goal.invariant-loop-x
invariant-loop-x l = record { long : length l.chosen ≡ 512; so_far : ChosenTo l.t.table.n (toward_start l.t.table.bytes.now) l.chosen l.x }
