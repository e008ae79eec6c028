use Rattle.std.proofs.Common.{◌≡◌, arith}
use Rattle.joining.proofs.Climbing.{climbing_starts, climbing_goes, climbing_stops, climbing_ends}
use Rattle.joining.proofs.steps_to.Goals as goal

pub loop-k-init : goal.loop-k-init
loop-k-init c = record { place = omega arith; nearer = climbing_starts _ _ _ }

pub returns-then-at-r : goal.returns-then-at-r
returns-then-at-r c = (omega arith, climbing_stops _ _ _ _ _ c.loop-k.invariant.nearer _ c.if-at-r.true)

pub loop-k-preserved : goal.loop-k-preserved
loop-k-preserved c =
    let l = c.loop-k in
    record { place = c.requires.1 l.at l.invariant.place; nearer = climbing_goes _ _ _ _ _ l.invariant.nearer c.if-at-r.false }

pub returns : goal.returns
returns c =
    let e : c.loop-k.k ≡ c.args.most = omega arith in
    (omega arith, climbing_ends _ _ _ _ _ (rw e at c.loop-k.invariant.nearer) _ (omega arith))
