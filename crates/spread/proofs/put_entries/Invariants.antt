-- The loop's invariant: the first j entries are put over the row.
use Rattle.spread.specs.Rows.{Overlaid}
use Rattle.spread.proofs.put_entries.Given as goal

abbrev pub invariant-loop-j : goal.invariant-loop-j
invariant-loop-j l = Overlaid l.part l.initial.room l.room l.at l.k l.j
