-- The next place: the same where nothing was taken, else one entry on.
use Rattle.sweep.proofs.Places.{behind_nothing, behind_target}
use Rattle.sweep.proofs.next_place.Goals as goal

pub returns-then-taken-eq65535 : goal.returns-then-taken-eq65535
returns-then-taken-eq65535 c = behind_nothing c.args.at c.args.taken c.if-taken-eq65535.true

pub returns : goal.returns
returns c = behind_target c.args.at c.args.taken c.if-taken-eq65535.false
