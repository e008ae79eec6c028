-- The invariant: so many places of the row are filled, and everything else is as it was.
use Rattle.rows.proofs.Part.{Part}
use Rattle.rows.proofs.fill_row.Given as goal

abbrev pub invariant-loop-c : goal.invariant-loop-c
invariant-loop-c l = Part l.initial.rows l.rows l.s l.l l.c
