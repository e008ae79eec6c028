-- In edition 1 nothing stands behind, in edition 2 as many as the counts say together.
use Rattle.std.proofs.Common.{refl, arith}
use Rattle.paper.specs.Labels.{labels_behind}
use Rattle.labels.proofs.Labels.behind.Goals as goal

pub returns-in-One : goal.returns-in-One
unfolding labels_behind
returns-in-One c = rw c.in-One.is (refl, omega arith)

pub returns-in-Two : goal.returns-in-Two
unfolding labels_behind
returns-in-Two c = rw c.in-Two.is c.counted.ensures
