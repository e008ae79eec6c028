-- Both writes are one pair more set down.
use Rattle.std.proofs.Common.{arith}
use Rattle.weights.proofs.Laid.{lays_one}
use Rattle.weights.proofs.set_down.Goals as goal

pub returns : goal.returns
returns c =
    let a = c.args in
    let p = c.requires in
    let w = c.saturating_sub-w in
    lays_one a.weights.now a.seen.now a.u a.v a.same w.result c.told-weights c.told-seen p.0 p.1 (omega arith) w.ensures
