-- The invariant of the loop: the next states on the classes before c that had no level are marked.
use Rattle.toward.specs.Marked.{Marked}
use Rattle.toward.proofs.Marks.{row_leads}
use Rattle.toward.proofs.mark_row.Given as goal

abbrev pub invariant-loop-c : goal.invariant-loop-c
invariant-loop-c l = Marked l.initial.levels l.levels (row_leads l.t.table.bytes.now l.s l.c) l.mark
