-- The loop's invariant: the list of state s begins at `from`, and none of the lists before it is bad.
use Rattle.std.proofs.Common.{◌≡◌, ◌+◌, ◌*◌, false}
use Rattle.paper.specs.Below.{any, sum}
use Rattle.paper.specs.Labels.{label_count}
use Rattle.labels.proofs.Lists.{bad}
use Rattle.labels.proofs.Labels.lists_bad.Given as goal

abbrev pub invariant-loop-s : goal.invariant-loop-s
invariant-loop-s l = (l.from ≡ l.at + 2 * l.n + 2 * sum l.s (label_count l.b l.at)) × (any l.s (bad l.b l.at l.n) ≡ false)
