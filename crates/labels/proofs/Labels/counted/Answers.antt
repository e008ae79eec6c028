use Rattle.std.proofs.Common.{add-one, arith}
use Rattle.paper.specs.Labels.{label_count}
use Rattle.labels.proofs.Labels.counted.Goals as goal

pub loop-s-preserved : goal.loop-s-preserved
unfolding label_count
loop-s-preserved c = (rw (add-one c.loop-s.s) (omega arith), omega arith)
