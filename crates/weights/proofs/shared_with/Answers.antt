use Rattle.std.proofs.Common.{◌≡◌, ◌+◌, arith}
use Rattle.paper.specs.Table.{classes}
use Rattle.paper.proofs.Counts.{count_le}
use Rattle.weights.specs.Weighed.{agree}
use Rattle.weights.proofs.Counting.{counts_none, counts_more, counts_all}
use Rattle.weights.proofs.shared_with.Goals as goal

pub loop-c-init : goal.loop-c-init
loop-c-init g c = let a = c.args in counts_none (λ i. agree a.t.now.bytes.now a.u (a.v + i)) g.row.N

pub loop-j-init : goal.loop-j-init
loop-j-init g c = c.loop-c.invariant

pub counted-requires : goal.counted-requires
counted-requires g c =
    let a = c.args in
    let l = c.loop-j in
    omega (arith, l.invariant.rest l.j (omega arith) c.loop-j-test.true, count_le c.loop-c.c (agree a.t.now.bytes.now a.u (a.v + l.j)), a.t.now.counted.few_classes, c.loop-c-test.true)

pub loop-j-preserved : goal.loop-j-preserved
loop-j-preserved g c =
    let a = c.args in
    let l = c.loop-j in
    counts_more (λ i. agree a.t.now.bytes.now a.u (a.v + i)) g.row.N c.loop-c.c l.j l.same l.invariant c.loop-j-test.true c.counted.result
    (rw (c.next-x.ensures, c.next.ensures) at c.counted.ensures)

pub loop-c-preserved : goal.loop-c-preserved
loop-c-preserved g c =
    let a = c.args in
    let l = c.loop-j in
    counts_all (λ i. agree a.t.now.bytes.now a.u (a.v + i)) g.row.N c.loop-c.c l.j l.same l.invariant (omega arith)

pub returns : goal.returns
returns g c =
    let e : c.loop-c.c ≡ classes c.args.t.now.bytes.now = omega (arith, c.args.t.now.counted.classes_are) in
    λ j h. rw e at (c.loop-c.invariant.rest j (omega arith) h)
