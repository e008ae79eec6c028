-- The loop's invariant: the rows of the first s states are placed, and end at `here`.
use Rattle.words.proofs.Laid.{Laid}
use Rattle.tableparts.specs.Pieces.{row_bytes}
use Rattle.tableparts.proofs.put_rows.Given as goal

abbrev pub invariant-loop-s : goal.invariant-loop-s
invariant-loop-s l = Laid l.initial.room l.at (row_bytes l.rows l.k) l.s l.room l.here
