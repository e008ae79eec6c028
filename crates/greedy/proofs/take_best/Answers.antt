use Rattle.std.proofs.Common.{arith, rules}
use Rattle.pairs.specs.Tie.{order_number}
use Rattle.weights.specs.Weighed.{weight_in}
use Rattle.greedy.proofs.Joins.{joins_start, joins_none, joins_more, joins_all}
use Rattle.greedy.proofs.take_best.Goals as goal

pub loop-joins-init : goal.loop-joins-init
loop-joins-init c =
    let a = c.args in
    let f = a.f0 in
    joins_start a.n (order_number a.tie) a.bound (weight_in a.weights.now) a.w c.requires (omega arith) f.d f.parent f.tree
    (record { low = f.low; long_far = search rules; long_tree = search rules })

pub returns-in_default : goal.returns-in_default
returns-in_default c =
    let l = c.loop-joins in
    let a = c.args in
    let f = a.f0 in
    joins_none a.n (order_number a.tie) a.bound (weight_in a.weights.now) a.w c.requires (omega arith) l.joins f.d f.parent f.tree l.f.d l.f.parent l.f.tree l.low l.invariant
    c.longest_paths-long.result c.longest_paths-long.ensures c.best_pair-s.result.low (rw c.in_default.is at c.best_pair-s.ensures)

pub loop-joins-preserved : goal.loop-joins-preserved
loop-joins-preserved c =
    let l = c.loop-joins in
    let a = c.args in
    let f = a.f0 in
    let r = c.join-f.result in
    joins_more a.n (order_number a.tie) a.bound (weight_in a.weights.now) a.w c.requires (omega arith) l.joins f.d f.parent f.tree l.f.d l.f.parent l.f.tree l.low l.invariant
    c.longest_paths-long.result c.longest_paths-long.ensures c.best_pair-s.result.low c.in-Some.p (rw c.in-Some.is at c.best_pair-s.ensures)
    r.d r.parent r.tree c.relaxed-low.result c.join-f.ensures c.relaxed-low.ensures

pub returns : goal.returns
returns c =
    let l = c.loop-joins in
    let a = c.args in
    let f = a.f0 in
    joins_all a.n (order_number a.tie) a.bound (weight_in a.weights.now) a.w c.requires (omega arith) l.joins f.d f.parent f.tree l.f.d l.f.parent l.f.tree l.low l.invariant (omega arith)
