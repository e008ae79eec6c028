-- The invariant of the loop: of the states before y the first of lower level that shares the most classes is picked.
use Rattle.toward.specs.Found.{candidate}
use Rattle.toward.proofs.Picked.{Picked}
use Rattle.toward.proofs.fall_of.Given as goal

abbrev pub invariant-loop-y : goal.invariant-loop-y
invariant-loop-y l = Picked (candidate l.t.bytes.now l.levels l.x) l.y l.best l.at
