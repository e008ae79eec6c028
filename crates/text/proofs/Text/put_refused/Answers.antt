-- The line stands behind what stood there.
use Rattle.text.proofs.Puts.{puts_behind}
use Rattle.text.proofs.Text.put_refused.Goals as goal

pub returns : goal.returns
returns g c = rw (← c.self.view_is) (puts_behind c.put_refused-self-inside.ensures c.self.invariant)
