-- The promise is that of `build::write`, on the same bytes.
use Rattle.kamordast.proofs.kamordast_write.Goals as goal

pub returns : goal.returns
returns c = c.write.ensures
