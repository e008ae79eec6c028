-- The promise is that of `apply::apply`, on the same bytes.
use Rattle.kamordast.proofs.kamordast_apply.Goals as goal

pub returns : goal.returns
returns c = c.apply.ensures
