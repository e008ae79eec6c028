-- The loop's invariant: the rows of the states so far are opened, and `at` is where the entries of the next begin.
use Prim.Native.Nat.{◌-◌}
use Rattle.abreast.proofs.RowsOpened.{Opening}
use Rattle.abreast.proofs.opening.open_rows.Given as goal

abbrev pub invariant-loop-s : goal.invariant-loop-s
invariant-loop-s l = Opening l.image l.n l.at l.s l.up l.place l.left l.wait

abbrev pub decreases-loop-s : goal.decreases-loop-s
decreases-loop-s l = l.n - l.s
