-- The loop's invariant: the states at the places so far are passed, and the entries of the others wait.
use Rattle.abreast.proofs.Going.{Going}
use Rattle.abreast.proofs.two_classes.Given as goal

abbrev pub invariant-loop-i : goal.invariant-loop-i
invariant-loop-i g l = let e = g.E.Entries in Going (e.view l.entries) (e.bytes l.entries) l.n l.first l.order l.i l.place l.left l.wait l.to l.hop
