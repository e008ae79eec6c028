-- A default that shares few is dropped; any other stays.
use mathlib.Core.Path.{sym, ap, ◌∙◌}
use mathlib.Core.Bool.{Bool, cond}
use Rattle.rewrite.proofs.stays.Goals as goal

pub returns-then-shares_few : goal.returns-then-shares_few
returns-then-shares_few c = sym (ap (λ (x : Bool). cond x 65535 c.args.d) (sym c.shares_few.ensures ∙ c.if-shares_few.true))

pub returns : goal.returns
returns c = sym (ap (λ (x : Bool). cond x 65535 c.args.d) (sym c.shares_few.ensures ∙ c.if-shares_few.false))
