-- Without a default the class is kept; with one, the two next states decide.
use Rattle.chains.proofs.Defaults.{from_none, from_some}
use Rattle.tally.proofs.keeps.Goals as goal

pub returns-then-d-eq65535 : goal.returns-then-d-eq65535
returns-then-d-eq65535 c = rw (from_none _ c.if-d-eq65535.true)

pub returns : goal.returns
returns c = rw (from_some _ c.if-d-eq65535.false, c.next.ensures, c.next-2.ensures)
