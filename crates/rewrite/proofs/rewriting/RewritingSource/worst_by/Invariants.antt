-- The loop's invariant: the cursors stand before class c, and `worst` is the largest hops of the classes passed.
use Rattle.rewrite.proofs.Sweeping.{Sweeping}
use Rattle.rewrite.proofs.rewriting.RewritingSource.worst_by.Given as goal

abbrev pub invariant-loop-c : goal.invariant-loop-c
invariant-loop-c l = Sweeping l.bytes l.n l.k l.stay l.c l.cursor l.own l.hop l.worst
