-- The number of each state is what the closure gives for it.
use Rattle.std.proofs.Common.{rules}
use Rattle.build.proofs.defaults.values_of.Goals as goal

pub returns : goal.returns
returns c = λ s h. let asked = c.of_states.ensures s h in search rules
