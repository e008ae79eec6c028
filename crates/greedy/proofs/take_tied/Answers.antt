use Rattle.std.proofs.Common.{◌≡◌, ◌+◌, ◌-◌, arith, rules}
use Rattle.paper.specs.Forest.{rest}
use Rattle.pairs.specs.Tie.{order_number}
use Rattle.weights.specs.Weighed.{weight_in}
use Rattle.greedy.proofs.Absent.{unseen_absent, becomes_absent}
use Rattle.greedy.proofs.Falls.{falls-start, falls_more, falls_end}
use Rattle.greedy.proofs.take_tied.Goals as goal

pub loop-at-init : goal.loop-at-init
loop-at-init c =
    let a = c.args in
    let f = a.f0 in
    let e : a.top + 1 - 1 ≡ a.top = omega arith in
    rw e (falls-start a.n (rest (order_number a.tie) a.n) a.bound (weight_in a.weights.now) a.top f.d f.parent f.tree
    (record { low = f.low; long_far = search rules; long_tree = search rules }))

pub loop-at-preserved-then-w-ne0 : goal.loop-at-preserved-then-w-ne0
loop-at-preserved-then-w-ne0 c =
    let a = c.args in
    let f = c.loop-at.f in
    let at = c.loop-at.at - 1 in
    let g = c.take_weight-f.result in
    falls_more a.n (rest (order_number a.tie) a.n) a.bound (weight_in a.weights.now) a.top at a.f0.d a.f0.parent a.f0.tree f.d f.parent f.tree c.loop-at.invariant (omega arith)
    g.d g.parent g.tree (rw (c.requires.1.own at (omega arith) c.if-w-ne0.true) at c.take_weight-f.ensures)

pub loop-at-preserved : goal.loop-at-preserved
loop-at-preserved c =
    let a = c.args in
    let f = c.loop-at.f in
    let at = c.loop-at.at - 1 in
    let order = rest (order_number a.tie) a.n in
    let weight = weight_in a.weights.now in
    falls_more a.n order a.bound weight a.top at a.f0.d a.f0.parent a.f0.tree f.d f.parent f.tree c.loop-at.invariant (omega arith) f.d f.parent f.tree
    (becomes_absent a.n order a.bound weight at (unseen_absent a.seen.now a.weights.now a.n at c.requires.0 (omega arith) c.requires.1 c.if-w-ne0.false)
    f.d f.parent f.tree c.loop-at.invariant.becomes.whole)

pub returns : goal.returns
returns c =
    let a = c.args in
    let l = c.loop-at in
    falls_end a.n (rest (order_number a.tie) a.n) a.bound (weight_in a.weights.now) a.top (l.at - 1) a.f0.d a.f0.parent a.f0.tree l.f.d l.f.parent l.f.tree
    l.invariant (omega arith)
