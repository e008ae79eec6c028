-- The loop's invariant: the total is the sum of the first s counts.
use Rattle.std.proofs.Common.{◌≡◌, ◌*◌, ◌≤◌}
use Rattle.paper.specs.Below.{sum}
use Rattle.paper.specs.Labels.{label_count}
use Rattle.labels.proofs.Labels.counted.Given as goal

abbrev pub invariant-loop-s : goal.invariant-loop-s
invariant-loop-s l = (l.total ≡ sum l.s (label_count l.b l.at)) × (l.total ≤ 65536 * l.s)
