-- The loop's invariant: the first u rows are searched.
use Rattle.std.proofs.Common.{◌≡◌, ◌≤◌, length}
use Rattle.pairs.specs.Keys.{fits_in, key_in}
use Rattle.pairs.specs.Tie.{order_number}
use Rattle.best.specs.Picked.{found_of}
use Rattle.best.specs.Searched.{Searched}
use Rattle.best.proofs.best_pair.Given as goal

abbrev pub invariant-loop-u : goal.invariant-loop-u
invariant-loop-u l = record {
  long : length l.low ≡ 512;
  few : l.best.key ≤ 65536;
  searched : Searched l.n (fits_in l.weights l.w l.d l.tree l.bound) (key_in (order_number l.tie) l.d l.long) l.u l.initial.low l.low (found_of l.best);
}
