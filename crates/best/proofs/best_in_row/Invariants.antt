-- The loop's invariant: of the pairs of the row before v the best is held. Pairs of another weight are passed over.
use Rattle.std.proofs.Common.{◌-◌, ◌≤◌, ◌<◌}
use Rattle.pairs.specs.Keys.{fits_in, key_in}
use Rattle.pairs.specs.Tie.{order_number}
use Rattle.best.specs.Picked.{found_of, InRow, Picked}
use Rattle.best.proofs.best_in_row.Given as goal

abbrev pub invariant-loop-v : goal.invariant-loop-v
invariant-loop-v l = record {
  after : l.u < l.v;
  within : l.v ≤ l.n;
  few : l.best.key ≤ 65536;
  picked : Picked l.n (fits_in l.weights l.w l.d l.tree l.bound) (key_in (order_number l.tie) l.d l.long) (InRow l.u l.v) (found_of l.best);
}

abbrev pub decreases-loop-v : goal.decreases-loop-v
decreases-loop-v l = l.n - l.v
