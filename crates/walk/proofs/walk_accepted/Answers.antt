-- The labels are as the loop asks; the loop is that of every automaton.
use native.Mathlib.Omega.{arith}
use Rattle.paper.specs.Scan.{walk_of}
use Rattle.facts.proofs.TableFacts.{AcceptedTable, accepted_table, table_few_labels}
use Rattle.walk.proofs.Plain.{table_stands, table_labelled}
use Rattle.walk.proofs.walk_accepted.Goals as goal
use Rattle.walk.proofs.walk_accepted.Goals.{Start}

accepted : (t : Start) → AcceptedTable t.args.table.now.table.bytes.now
accepted t = accepted_table t.args.table.now.table.bytes.now t.args.table.now.accepted

pub firsts-firsts-requires : goal.firsts-firsts-requires
firsts-firsts-requires c =
    let t = c.args.table.now.table in
    let A = accepted (goal.at.firsts-firsts-requires c).Start in
    (t.counted.few_states, omega (arith, A.long, t.counted.states_are), rw (t.counted.states_are, c.requires.0) (table_few_labels t.bytes.now A))

pub invariant_of-tags : goal.invariant_of-tags
invariant_of-tags c =
    let t = c.args.table.now.table in
    let S = table_stands t.bytes.now (accepted (goal.at.invariant_of-tags c).Start) t.n t.counted.states_are _ c.requires.0 _ c.firsts-firsts.ensures in
    record { near = S.near; few_states = S.few_states; there = S.there; few = S.few; firsts_are = S.firsts_are }

pub ran-requires : goal.ran-requires
ran-requires c =
    let t = c.args.table.now.table in
    (table_labelled t.bytes.now (accepted (goal.at.ran-requires c).Start) t.n t.counted.states_are _ c.requires.0, omega (arith, c.requires.1, t.counted.states_are), c.requires.2)

pub returns : goal.returns
unfolding walk_of
returns c = c.ran.ensures
