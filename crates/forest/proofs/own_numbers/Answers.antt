-- The number at each place is what the closure answers there.
use Rattle.std.proofs.Common.{rules}
use Rattle.forest.proofs.own_numbers.Goals as goal

pub returns : goal.returns
returns c x below = let asked = (c.from_fn.ensures.items.at x 0 below).2 in search rules
