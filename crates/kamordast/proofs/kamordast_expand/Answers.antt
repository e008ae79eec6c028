-- The promise is that of `expand::expand`, on the same bytes.
use Rattle.kamordast.proofs.kamordast_expand.Goals as goal

pub returns : goal.returns
returns c = c.expand.ensures
