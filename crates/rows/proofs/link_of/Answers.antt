-- Each way out is one law.
use Rattle.rows.proofs.Read.{read_flat, read_deep}
use Rattle.rows.proofs.link_of.Goals as goal

pub returns-then-p-eq0 : goal.returns-then-p-eq0
returns-then-p-eq0 c = let a = c.args in read_flat a.rows.now a.links.now a.p a.a c.if-p-eq0.true

pub returns : goal.returns
returns c = let a = c.args in read_deep a.rows.now a.links.now a.p a.a c.if-p-eq0.false
