-- The loop's invariant: the entries of the classes before c are placed, and end at `here`.
use Rattle.words.proofs.Laid.{Laid}
use Rattle.build.specs.Pieces.{kept_entry}
use Rattle.build.proofs.parts.DefaultedSource.put_row.Given as goal

abbrev pub invariant-loop-c : goal.invariant-loop-c
invariant-loop-c l = Laid l.initial.room l.at (kept_entry l.t.bytes.now l.d l.s) l.c l.room l.here
