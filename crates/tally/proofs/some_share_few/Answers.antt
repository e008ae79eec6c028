use Rattle.std.proofs.Common.{◌≡◌, sym, ◌∙◌, arith}
use Rattle.paper.proofs.Below.{any_found, any_more}
use Rattle.tally.proofs.some_share_few.Invariants.{few}
use Rattle.tally.proofs.some_share_few.Goals as goal

pub returns-then-shares_few : goal.returns-then-shares_few
returns-then-shares_few c =
    let a = c.args in
    sym (any_found a.n c.loop-s.s (few a.def.now a.counts.now a.k) c.loop-s-test.true (sym c.shares_few.ensures ∙ c.if-shares_few.true))

pub loop-s-preserved : goal.loop-s-preserved
loop-s-preserved c =
    let a = c.args in
    any_more c.loop-s.s (few a.def.now a.counts.now a.k) c.loop-s.invariant (sym c.shares_few.ensures ∙ c.if-shares_few.false)

pub returns : goal.returns
returns c =
    let l = c.loop-s in
    let e : l.s ≡ c.args.n = omega arith in
    sym (rw e at l.invariant)
