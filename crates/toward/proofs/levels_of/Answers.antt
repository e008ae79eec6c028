use Rattle.std.proofs.Common.{◌≡◌, ℕ, ◌+◌, sym, ◌∙◌, ap, not, arith, length-set}
use Rattle.std.proofs.Math.ListN.{replicate}
use Rattle.std.proofs.lemmas.List.{length-replicate, get_or-replicate}
use borrow.Author.Tests.{not-true}
use Rattle.facts.proofs.TableFacts.{accepted_table}
use Rattle.toward.proofs.Rounds.{HoldsWithin, holds_first, holds_round, holds_last, holds_levels}
use Rattle.toward.proofs.levels_of.Goals as goal
use Rattle.toward.proofs.levels_of.Goals.{After-mark_round}

-- After a round the array holds the levels within one byte more.
more : (c : After-mark_round) →
    let t = c.args.t.now.table in
    HoldsWithin t.bytes.now t.n (c.loop-i.i + 1) c.mark_round.new.levels
more c =
    let l = c.loop-i in
    let t = c.args.t.now.table in
    let A = accepted_table t.bytes.now c.args.t.now.accepted in
    holds_round t.bytes.now A t.n t.counted.states_are l.i c.loop-i-test.true l.levels l.invariant.holds c.mark_round.new.levels c.mark_round.ensures.0

pub bounds-levels-start : goal.bounds-levels-start
bounds-levels-start c =
    let A = accepted_table c.args.t.now.table.bytes.now c.args.t.now.accepted in
    omega (arith, c.get16-start.ensures, A.begins, A.few_states)

pub loop-i-init : goal.loop-i-init
loop-i-init c =
    let t = c.args.t.now.table in
    let A = accepted_table t.bytes.now c.args.t.now.accepted in
    let blank = replicate {A = ℕ} 512 65535 in
    let long = length-replicate {A = ℕ} 512 65535 in
    record {
      long = length-set blank c.get16-start.result 0 ∙ long;
      holds = holds_first t.bytes.now A t.n t.counted.states_are blank long (λ x h. get_or-replicate {A = ℕ} 512 x 65535 0 h) c.get16-start.result c.get16-start.ensures;
    }

pub returns-then-not-mark_round : goal.returns-then-not-mark_round
returns-then-not-mark_round c =
    let l = c.loop-i in
    let t = c.args.t.now.table in
    let A = accepted_table t.bytes.now c.args.t.now.accepted in
    holds_last t.bytes.now A t.n t.counted.states_are l.i c.loop-i-test.true l.levels c.mark_round.new.levels l.invariant.holds
    (sym c.mark_round.ensures.1 ∙ not-true _ (ap not c.if-not-mark_round.true)) (more (goal.at.returns-then-not-mark_round c).After-mark_round)

pub loop-i-preserved : goal.loop-i-preserved
loop-i-preserved c = record { long = c.mark_round.ensures.0.long; holds = more (goal.at.loop-i-preserved c).After-mark_round }

pub returns : goal.returns
returns c =
    let t = c.args.t.now.table in
    let A = accepted_table t.bytes.now c.args.t.now.accepted in
    let l = c.loop-i in
    let e : l.i ≡ t.n = omega arith in
    holds_levels t.bytes.now A t.n t.counted.states_are l.levels (rw e at l.invariant.holds)
