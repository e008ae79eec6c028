-- The invariant of the loop: the first x states are renewed, all others have their old distance.
use Rattle.std.proofs.Common.{◌≡◌, length}
use Rattle.joining.specs.Held.{Renewed}
use Rattle.joining.proofs.renew.Given as goal

abbrev pub invariant-loop-x : goal.invariant-loop-x
invariant-loop-x l = record { long : length l.d ≡ 512; renewed : Renewed l.n l.u l.v l.initial.d l.parent l.tree l.d l.x }
