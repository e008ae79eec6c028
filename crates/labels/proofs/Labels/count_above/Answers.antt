use Rattle.std.proofs.Common.{◌≡◌, sym, arith}
use borrow.Author.Tests.{lt-ltb, le-ltb}
use Rattle.paper.specs.Labels.{label_count}
use Rattle.paper.proofs.Below.{any_more, any_found}
use Rattle.labels.proofs.Labels.count_above.Invariants.{high}
use Rattle.labels.proofs.Labels.count_above.Goals as goal

pub returns-then-most-get16 : goal.returns-then-most-get16
unfolding label_count
returns-then-most-get16 c =
    let a = c.args.self.now in
    let s = c.loop-s.s in
    sym (any_found a.n s (high a.bytes.now a.at c.args.most) (omega arith) (lt-ltb c.args.most (label_count a.bytes.now a.at s) (omega arith)))

pub loop-s-preserved : goal.loop-s-preserved
unfolding label_count
loop-s-preserved c =
    let a = c.args.self.now in
    let s = c.loop-s.s in
    any_more s (high a.bytes.now a.at c.args.most) c.loop-s.invariant (le-ltb c.args.most (label_count a.bytes.now a.at s) (omega arith))

pub returns : goal.returns
returns c = let all : c.loop-s.s ≡ c.args.self.now.n = omega arith in sym (rw all at c.loop-s.invariant)
