-- The bytes of the line.
use borrow.Author.Rules.{rules}
use Rattle.paper.specs.Text.{too_long_line}
use Rattle.text.proofs.lent.put_too_long.Goals as goal

pub put-requires : goal.put-requires
unfolding too_long_line
put-requires c = search rules

pub returns : goal.returns
unfolding too_long_line
returns c = search rules
