-- The loop's invariant: the entries before the place have classes below the class.
use Rattle.std.proofs.Common.{◌-◌, length}
use Rattle.image.specs.Laid.{BelowAt}
use Rattle.image.proofs.search.Given as goal

abbrev pub invariant-loop-at : goal.invariant-loop-at
invariant-loop-at l = BelowAt l.row l.class l.at

abbrev pub decreases-loop-at : goal.decreases-loop-at
decreases-loop-at l = length l.row - l.at
