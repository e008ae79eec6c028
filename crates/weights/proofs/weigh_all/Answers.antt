use Rattle.std.proofs.Common.{◌≡◌, ◌+◌, ◌-◌, ◌*◌, ◌/◌, arith}
use Rattle.weights.proofs.Laid.{laid_starts, laid_skips, laid_ends, laid_all}
use Rattle.weights.proofs.weigh_all.Goals as goal

pub loop-u-init : goal.loop-u-init
loop-u-init c = let t = c.args.t.now in laid_starts t.bytes.now t.n t.counted.few_states c.args.weights.now c.told-weights

pub loop-i-init : goal.loop-i-init
loop-i-init c =
    let t = c.args.t.now in
    let l = c.loop-u in
    let e : l.u + 1 ≡ l.u + 1 + 4 * 0 = omega arith in
    rw e at (laid_skips t.bytes.now t.n t.counted.few_states l.weights l.seen l.u l.invariant)

pub loop-i-preserved : goal.loop-i-preserved
loop-i-preserved c =
    let first = c.loop-u.u + 1 in
    let i = c.loop-i.i in
    let e : first + 4 * i + 4 ≡ first + 4 * (i + 1) = omega arith in
    rw e at (c.set_down_all.ensures c.loop-i.invariant)

pub loop-v-init : goal.loop-v-init
loop-v-init c =
    let e : c.loop-i.i ≡ (c.args.t.now.n - (c.loop-u.u + 1)) / 4 = omega (arith, c.loop-i.auto, c.loop-i-test.false) in
    rw e at c.loop-i.invariant

pub loop-v-preserved : goal.loop-v-preserved
loop-v-preserved c = c.set_down_all-in-loop-v.ensures c.loop-v.invariant

pub loop-u-preserved : goal.loop-u-preserved
loop-u-preserved c =
    let t = c.args.t.now in
    let l = c.loop-v in
    let e : l.v ≡ t.n = omega arith in
    laid_ends t.bytes.now t.n t.counted.few_states l.weights l.seen c.loop-u.u (rw e at l.invariant)

pub returns : goal.returns
returns c =
    let t = c.args.t.now in
    let l = c.loop-u in
    let e : l.u ≡ t.n = omega arith in
    laid_all t.bytes.now t.n t.counted.few_states l.weights l.seen (rw e at l.invariant)
