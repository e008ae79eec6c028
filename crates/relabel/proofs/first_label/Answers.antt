-- Without labels the number is 0, else it is the first label.
use mathlib.Core.Path.{◌∙◌}
use Rattle.relabel.proofs.Across.{first_none, first_some}
use Rattle.relabel.proofs.first_label.Goals as goal

pub returns-then-count-eq0 : goal.returns-then-count-eq0
returns-then-count-eq0 c = let a = c.args in first_none a.image.now a.from a.count c.if-count-eq0.true

pub returns : goal.returns
returns c = let a = c.args in c.get16.ensures ∙ first_some a.image.now a.from a.count c.if-count-eq0.false
