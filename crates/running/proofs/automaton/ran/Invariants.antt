-- The loop's invariant: the running scan after i bytes, with its reports at the front of the room (`Going`).
use Rattle.running.proofs.Going.{Going}
use Rattle.running.proofs.automaton.ran.Given as goal

abbrev pub invariant-loop-i : goal.invariant-loop-i
invariant-loop-i g l = Going (g.A.Automaton.rules l.automaton) l.most l.state l.payload l.initial.room l.room l.run.state l.run.reports l.run.hops l.i
