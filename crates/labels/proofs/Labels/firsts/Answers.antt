use Rattle.std.proofs.Common.{◌≡◌, ◌+◌, refl, add-one, arith}
use Rattle.paper.specs.Below.{sum}
use Rattle.paper.specs.Labels.{label_count, labels_behind}
use Rattle.paper.proofs.Filled.{fills_none, fills_more}
use Rattle.paper.proofs.Sums.{sum-before}
use Rattle.labels.proofs.Labels.firsts.Goals as goal
use Rattle.labels.proofs.Labels.firsts.Goals.{In-loop-s}

pub loop-s-init : goal.loop-s-init
loop-s-init c = (fills_none refl, omega arith)

pub overflow_add-first : goal.overflow_add-first
unfolding labels_behind label_count
overflow_add-first c =
    let a = c.args.self.now in
    let counts = label_count a.bytes.now a.at in
    let few = rw c.in-Two.is at c.requires.2 in
    omega (arith, few, sum-before a.n c.loop-s.s counts c.loop-s-test.true, c.loop-s.invariant.1, c.get16-first.ensures, c.requires.0)

pub loop-s-preserved : goal.loop-s-preserved
unfolding label_count
loop-s-preserved c =
    let a = c.args.self.now in
    let counts = label_count a.bytes.now a.at in
    let more : sum (c.loop-s.s + 1) counts ≡ sum c.loop-s.s counts + counts c.loop-s.s = rw (add-one c.loop-s.s) in (
      fills_more c.loop-s.invariant.0 (omega (arith, c.requires.0)) c.loop-s.invariant.1,
      omega (arith, more, c.loop-s.invariant.1, c.get16-first.ensures),
    )
