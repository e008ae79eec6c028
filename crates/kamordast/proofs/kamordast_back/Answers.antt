-- The promise is that of `moves::back`, on the same bytes.
use Rattle.kamordast.proofs.kamordast_back.Goals as goal

pub returns : goal.returns
returns c = c.back.ensures
