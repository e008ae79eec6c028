-- Whether an entry is left is tested first.
use mathlib.Core.Path.{sym, ◌∙◌}
use native.Mathlib.Omega.{arith}
use Rattle.abreast.proofs.Laying.{head_none, head_some}
use Rattle.abreast.proofs.head_class.Goals as goal

pub returns-then-left-eq0 : goal.returns-then-left-eq0
returns-then-left-eq0 c = let a = c.args in sym (head_none a.b.now a.at a.left c.if-left-eq0.true)

pub get16-requires : goal.get16-requires
get16-requires c = omega (arith, c.requires c.if-left-eq0.false)

pub returns : goal.returns
returns c = let a = c.args in c.get16.ensures ∙ sym (head_some a.b.now a.at a.left c.if-left-eq0.false)
