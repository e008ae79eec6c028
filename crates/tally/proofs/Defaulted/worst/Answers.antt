use Rattle.std.proofs.Common.{ℕ, ◌+◌, ◌*◌, sym, subst, arith}
use Rattle.paper.specs.Table.{class_of}
use Rattle.facts.proofs.TableFacts.{Classed, accepted_table}
use Rattle.chains.proofs.Far.{far_none, far_more, far_worst}
use Rattle.tally.proofs.Defaulted.worst.Goals as goal

pub loop-eight-init : goal.loop-eight-init
loop-eight-init c = far_none

pub loop-eight-preserved : goal.loop-eight-preserved
loop-eight-preserved c =
    let l = c.loop-eight in
    let (found, e, M) = c.most_hops-worst.ensures in
    far_more (8 * (l.eight + 1)) found c.most_hops-worst.result (omega arith) l.invariant e
    (λ s x hs hx h u. M.over s x hs hx h (omega arith)) (λ y h below. M.under y h (λ s x hs hx u. below s x hs hx (omega arith)))

pub returns : goal.returns
returns c =
    let t = c.args.self.now.table.table in
    let A = accepted_table t.bytes.now c.args.self.now.table.accepted in
    let all = subst (λ (x : ℕ). Classed 256 x (class_of t.bytes.now)) (sym t.counted.classes_are) A.all_classed in
    omega (arith, far_worst (sym t.counted.states_are) c.loop-eight.invariant (omega arith) (class_of t.bytes.now) all)
