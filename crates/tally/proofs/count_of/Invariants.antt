-- The loop's invariant: so many of the classes before c are kept.
use Rattle.tally.proofs.Counting.{Counted}
use Rattle.tally.proofs.count_of.Given as goal

abbrev pub invariant-loop-c : goal.invariant-loop-c
invariant-loop-c l = Counted l.t.bytes.now l.t.k l.s l.d l.c l.count
