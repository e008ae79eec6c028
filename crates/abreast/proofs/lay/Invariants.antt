-- The loop's invariant: so many entries are laid, and the next waits.
use Rattle.abreast.proofs.Laying.{Laying}
use Rattle.abreast.proofs.lay.Given as goal

abbrev pub invariant-loop-c : goal.invariant-loop-c
invariant-loop-c l = Laying l.b l.at l.left l.first l.row l.initial.to l.initial.hop l.to l.hop l.place l.more l.c

abbrev pub decreases-loop-c : goal.decreases-loop-c
decreases-loop-c l = l.more
