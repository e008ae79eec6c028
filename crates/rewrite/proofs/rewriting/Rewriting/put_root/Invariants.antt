-- The loop's invariant: the entries of the classes before c are placed and end at `here`, and the cursor in what the state stored stands before c.
use Rattle.sweep.specs.Cursors.{StandsAt}
use Rattle.words.proofs.Laid.{Laid}
use Rattle.rewrite.specs.Staying.{root_entry}
use Rattle.rewrite.proofs.rewriting.Rewriting.put_root.Given as goal

abbrev pub invariant-loop-c : goal.invariant-loop-c
invariant-loop-c l = StandsAt l.bytes l.c l.s l.from × Laid l.initial.room l.at (root_entry l.bytes l.s) l.c l.room l.here
