-- The invariant of the loop: the array holds the levels of the states that are reached within i bytes.
use Rattle.std.proofs.Common.{◌≡◌, length}
use Rattle.toward.proofs.Rounds.{HoldsWithin}
use Rattle.toward.proofs.levels_of.Given as goal

abbrev pub invariant-loop-i : goal.invariant-loop-i
invariant-loop-i l = record { long : length l.levels ≡ 512; holds : HoldsWithin l.t.table.bytes.now l.t.table.n l.i l.levels }
