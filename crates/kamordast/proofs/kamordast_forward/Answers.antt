-- The promise is that of `moves::forward`, on the same bytes.
use Rattle.kamordast.proofs.kamordast_forward.Goals as goal

pub returns : goal.returns
returns c = c.forward.ensures
