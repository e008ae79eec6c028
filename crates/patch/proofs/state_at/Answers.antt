-- The number of 16 bits at the place of a listed state.
use Rattle.paper.specs.Patch.{state_at_of}
use Rattle.patch.proofs.state_at.Goals as goal

pub returns : goal.returns
unfolding state_at_of
returns c = c.get16.ensures
