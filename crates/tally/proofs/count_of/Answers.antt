use Rattle.std.proofs.Common.{◌≡◌, refl, inl, inr, arith}
use Rattle.tally.proofs.Counting.{counted}
use Rattle.tally.proofs.count_of.Goals as goal
use Rattle.tally.proofs.count_of.Goals.{else-keeps, then-keeps}

pub loop-c-init : goal.loop-c-init
loop-c-init c = (omega arith, refl, omega arith)

pub overflow_add-count : goal.overflow_add-count
overflow_add-count c = omega (arith, c.loop-c.invariant.2, c.args.t.now.counted.few_classes)

pub loop-c-preserved : goal.loop-c-preserved
loop-c-preserved c =
    let a = c.args in
    counted a.t.now.bytes.now a.t.now.k a.s a.d c.loop-c.c c.loop-c.count c.if-keeps.count c.keeps.result c.loop-c.invariant c.loop-c-test.true c.keeps.ensures
    (elim c.if-keeps.branch [
      | then-keeps w ↦ inl (w.if-keeps.true, w.count-is)
      | else-keeps w ↦ inr (w.if-keeps.false, w.count-is)
    ])

pub returns : goal.returns
returns c =
    let e : c.loop-c.c ≡ c.args.t.now.k = omega arith in
    rw e at c.loop-c.invariant.1
