-- The number of each state is what the closure gives for it.
use Rattle.std.proofs.Common.{rules}
use Rattle.tally.proofs.Defaulted.counts.Goals as goal

pub returns : goal.returns
returns c = λ s h. let asked = c.of_states.ensures s h in let C = c.args.self.now.table.table.counted.classes_are in rw (← C) (search rules)
