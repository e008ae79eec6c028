-- The promise is that of `walk::walk`, on the same bytes from the same state.
use Rattle.kamordast.proofs.kamordast_walk.Goals as goal

pub returns : goal.returns
returns c = c.walk.ensures
