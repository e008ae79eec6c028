-- The loop's invariant: the rows of the states at the places passed stand, and only rows were written.
use Rattle.spread.specs.Kept.{Kept}
use Rattle.spread.specs.Rows.{row_at}
use Rattle.spread.proofs.Standing.{Standing}
use Rattle.spread.proofs.Spread.put_rows.Given as goal

abbrev pub invariant-loop-s : goal.invariant-loop-s
invariant-loop-s l =
    let a = l.fn.self in record {
      kept : Kept l.initial.room l.room a.first (row_at a.first a.image.k a.image.n);
      standing : Standing a.image.bytes.now a.first a.image.k l.room l.fn.order l.s-index;
    }
