-- The loop's invariant: the first c numbers are copied.
use Rattle.spread.specs.Rows.{RowCopied}
use Rattle.spread.proofs.copy_row.Given as goal

abbrev pub invariant-loop-c : goal.invariant-loop-c
invariant-loop-c l = RowCopied l.initial.room l.room l.from l.to l.c
