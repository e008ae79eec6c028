-- The promise is that of `rewrite::rewrite`, on the same bytes.
use Rattle.kamordast.proofs.kamordast_rewrite.Goals as goal

pub returns : goal.returns
returns c = c.rewrite.ensures
