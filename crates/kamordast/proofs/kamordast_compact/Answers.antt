-- The promise is that of `build::compact`, on the same bytes and the same bound, in order 0.
use Rattle.kamordast.proofs.kamordast_compact.Goals as goal

pub returns : goal.returns
returns c = c.compact.ensures
