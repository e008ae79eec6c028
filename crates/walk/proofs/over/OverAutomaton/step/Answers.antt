-- The byte's class is looked up in the row of the state.
use mathlib.Core.Path.{refl}
use native.Mathlib.Omega.{arith}
use Rattle.facts.proofs.TableFacts.{AcceptedTable, accepted_table}
use Rattle.walk.proofs.Plain.{class_in, byte_reached}
use Rattle.walk.proofs.over.OverAutomaton.step.Goals as goal
use Rattle.walk.proofs.over.OverAutomaton.step.Goals.{Start}

accepted : (t : Start) → AcceptedTable t.args.self.now.table.table.bytes.now
accepted t = accepted_table t.args.self.now.table.table.bytes.now t.args.self.now.table.accepted

pub bounds-self-byte : goal.bounds-self-byte
bounds-self-byte c = omega (arith, (accepted (goal.at.bounds-self-byte c).Start).long, c.ranges.byte)

pub next-next-requires : goal.next-next-requires
next-next-requires c =
    let t = c.args.self.now.table.table in (
      omega (arith, c.requires, t.counted.states_are),
      omega (arith, class_in t.bytes.now (accepted (goal.at.next-next-requires c).Start) c.args.byte _ (omega (arith, c.ranges.byte)) refl, t.counted.classes_are),
    )

pub returns-clause-reached : goal.returns-clause-reached
returns-clause-reached c =
    rw c.next-next.ensures (byte_reached c.args.self.now.table.table.bytes.now (accepted (goal.at.returns-clause-reached c).Start) c.args.state c.args.byte c.requires (omega (arith, c.ranges.byte)))
