use Rattle.std.proofs.Common.{◌≡◌, refl, sym, add-one, arith}
use Rattle.paper.specs.Labels.{label_count}
use Rattle.paper.proofs.Sums.{sum-before}
use Rattle.labels.specs.Lists.{lists_bad_of}
use Rattle.labels.proofs.Lists.{lists_found, lists_more}
use Rattle.labels.proofs.Labels.lists_bad.Goals as goal

pub loop-s-init : goal.loop-s-init
loop-s-init c = (omega arith, refl)

pub list_bad-requires : goal.list_bad-requires
unfolding label_count
list_bad-requires c =
    let a = c.args.self.now in
    omega (arith, sum-before a.n c.loop-s.s (label_count a.bytes.now a.at) (omega arith))

pub returns-then-list_bad : goal.returns-then-list_bad
unfolding label_count
returns-then-list_bad c =
    let a = c.args.self.now in
    lists_found a.bytes.now a.at a.n c.loop-s.s c.loop-s.from c.get16-count.result c.list_bad.result (omega arith) c.loop-s.invariant.0
    c.get16-count.ensures c.list_bad.ensures c.if-list_bad.true

pub overflow_add-from-in-loop-s : goal.overflow_add-from-in-loop-s
unfolding label_count
overflow_add-from-in-loop-s c =
    let a = c.args.self.now in
    omega (arith, sum-before a.n c.loop-s.s (label_count a.bytes.now a.at) (omega arith))

pub loop-s-preserved : goal.loop-s-preserved
unfolding label_count
loop-s-preserved c =
    let a = c.args.self.now in (
      rw (add-one c.loop-s.s) (omega arith),
      lists_more a.bytes.now a.at a.n c.loop-s.s c.loop-s.from c.get16-count.result c.list_bad.result c.loop-s.invariant.1 c.loop-s.invariant.0
          c.get16-count.ensures c.list_bad.ensures c.if-list_bad.false,
    )

pub returns : goal.returns
unfolding lists_bad_of
returns c = let all : c.loop-s.s ≡ c.args.self.now.n = omega arith in sym (rw all at c.loop-s.invariant.1)
