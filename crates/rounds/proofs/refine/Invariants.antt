-- The invariant of the loop: the names are those after as many rounds.
use Rattle.reduction.specs.Named.{Named}
use Rattle.rounds.proofs.refine.Given as goal

abbrev pub invariant-loop-i : goal.invariant-loop-i
invariant-loop-i l = Named l.table.table.bytes.now l._i l.name
