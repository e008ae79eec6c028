-- The invariant of the loop: the trees of the roots before x are turned to them.
use Rattle.forest.specs.Settled.{Settles}
use Rattle.forest.proofs.settle.Given as goal

abbrev pub invariant-loop-x : goal.invariant-loop-x
invariant-loop-x l = Settles l.n l.f.d l.initial.parent l.f.tree l.parent l.x
