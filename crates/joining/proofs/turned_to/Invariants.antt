-- The invariant of the walk from u: the states passed are turned, `at` and `back` are places of the array, and so are all parents.
use Rattle.std.proofs.Common.{◌≡◌, ◌<◌, length}
use Rattle.joining.specs.Rooted.{Low}
use Rattle.joining.proofs.Turned.{Turns}
use Rattle.joining.proofs.turned_to.Given as goal

abbrev pub invariant-loop-k : goal.invariant-loop-k
invariant-loop-k l = record {
  place : l.at < 512;
  place_back : l.back < 512;
  long : length l.parent ≡ 512;
  low : Low l.parent;
  turns : Turns l.initial.parent l.u l.parent l.back l.at l.k;
}
