use Rattle.std.proofs.Common.{arith}
use Rattle.std.proofs.lemmas.Slice.Eq.{slice_eq-Decides}
use Rattle.std.proofs.lemmas.Bool.Decides.{Decides-eqb}
use Rattle.facts.proofs.TableFacts.{accepted_table}
use Rattle.reduction.proofs.Refined.{refine_last, refine_more}
use Rattle.rounds.proofs.refine.Goals as goal

pub round-further-requires : goal.round-further-requires
round-further-requires c = (_, c.loop-i.invariant)

pub returns-then-eq : goal.returns-then-eq
returns-then-eq c =
    let a = c.args.table.now in
    refine_last a.table.bytes.now (accepted_table a.table.bytes.now a.accepted) a.table.n a.table.counted.states_are c.loop-i.name c.round-further.result c.loop-i._i (omega arith) c.loop-i.invariant c.round-further.ensures
    ((slice_eq-Decides Decides-eqb _ _ _ c.eq.ensures).0 c.if-eq.true)

pub loop-i-preserved : goal.loop-i-preserved
loop-i-preserved c =
    let a = c.args.table.now in
    refine_more a.table.bytes.now (accepted_table a.table.bytes.now a.accepted) a.table.n a.table.counted.states_are c.loop-i.name c.round-further.result c.loop-i._i c.loop-i.invariant c.round-further.ensures
