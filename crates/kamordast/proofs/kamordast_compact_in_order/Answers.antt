-- The promise is that of `build::compact`, on the same bytes, the same order and the same bound.
use Rattle.kamordast.proofs.kamordast_compact_in_order.Goals as goal

pub returns : goal.returns
returns c = c.compact.ensures
