-- The digits that the kit spells are the number in decimal.
use mathlib.Core.Path.{◌≡◌, ◌∙◌}
use lib.ListN.{take}
use Rattle.paper.specs.Text.{decimal}
use Rattle.text.proofs.Decimal.{spelt_decimal}
use Rattle.text.proofs.lent.put_number.Goals as goal
use Rattle.text.proofs.lent.put_number.Goals.{After-decimal-count}

-- What stands before the count is the number in decimal.
spelt : (c : After-decimal-count) → take c.decimal-count.result c.decimal-count.new.out ≡ decimal c.args.number
spelt c = c.decimal-count.ensures.digits ∙ spelt_decimal c.args.number c.decimal-count.result c.decimal-count.ensures.len

pub put-requires : goal.put-requires
put-requires c = rw (spelt (goal.at.put-requires c).After-decimal-count) c.requires

pub returns : goal.returns
returns c = rw (spelt (goal.at.returns c).After-decimal-count) at c.put.ensures
