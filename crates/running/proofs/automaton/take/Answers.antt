-- The step's state and hops are those of the look-up.
use Rattle.running.specs.Running.{went_of}
use Rattle.running.proofs.automaton.take.Goals as goal

pub returns-clause-went : goal.returns-clause-went
unfolding went_of
returns-clause-went g c = rw (c.step-step.ensures.state, c.step-step.ensures.hops)

pub returns-clause-reached : goal.returns-clause-reached
returns-clause-reached g c = rw (← c.step-step.ensures.state, ← c.step-step.ensures.hops) c.step-step.ensures.reached
