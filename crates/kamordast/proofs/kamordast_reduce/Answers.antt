-- The promise is that of `reduce::reduce`, on the same bytes.
use Rattle.kamordast.proofs.kamordast_reduce.Goals as goal

pub returns : goal.returns
returns c = c.reduce.ensures
