-- The space, and behind it the number.
use Rattle.text.proofs.Puts.{puts_then}
use Rattle.text.proofs.lent.put_next.Goals as goal

pub returns : goal.returns
returns c =
    puts_then c.put-here.ensures c.requires c.put_number.ensures
