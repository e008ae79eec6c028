-- A state beside which y does not stay the root is enough.
use Rattle.std.proofs.Common.{sym, ◌∙◌, ap, not, arith}
use borrow.Author.Tests.{not-true}
use Rattle.forest.specs.Settled.{beside_root}
use Rattle.forest.proofs.Every.{every_fails}
use Rattle.forest.proofs.is_root.Goals as goal

pub returns-then-not-stays_root : goal.returns-then-not-stays_root
returns-then-not-stays_root c =
    let a = c.args in
    sym (every_fails a.n c.loop-z.z (beside_root a.d.now a.tree.now a.near.now a.y) (omega arith) (sym c.stays_root.ensures ∙ not-true _ (ap not c.if-not-stays_root.true)))
