-- The promise is that of `scan::scan`, on the same bytes from the same state.
use Rattle.kamordast.proofs.kamordast_scan.Goals as goal

pub returns : goal.returns
returns c = c.scan.ensures
