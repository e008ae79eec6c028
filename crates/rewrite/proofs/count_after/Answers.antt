-- 65535 is a root, which counts k.
use mathlib.Core.Path.{sym, ap}
use mathlib.Core.Bool.{Bool, cond}
use borrow.Author.Tests.{eq-eqb, ne_eqb}
use Rattle.rewrite.proofs.count_after.Goals as goal

pub returns-then-d-eq65535 : goal.returns-then-d-eq65535
returns-then-d-eq65535 c = let a = c.args in sym (ap (λ (x : Bool). cond x a.k a.count) (eq-eqb a.d 65535 c.if-d-eq65535.true))

pub returns : goal.returns
returns c = let a = c.args in sym (ap (λ (x : Bool). cond x a.k a.count) (ne_eqb a.d 65535 c.if-d-eq65535.false))
