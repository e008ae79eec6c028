use Rattle.std.proofs.Common.{◌≡◌, inl, inr, arith, rules}
use Rattle.joining.proofs.Replaced.{replacing_more, replaced_starts}
use Rattle.joining.proofs.renumber.Goals as goal
use Rattle.joining.proofs.renumber.Goals.{else-tree-x, then-tree-x}

pub loop-x-init : goal.loop-x-init
loop-x-init c = record { long = search rules; so_far = replaced_starts _ _ _ }

-- One state more is renumbered.
pub loop-x-preserved : goal.loop-x-preserved
loop-x-preserved c =
    let l = c.loop-x in
    replacing_more _ _ _ l.tree c.if-tree-x.tree l.x l.invariant (omega arith) (elim c.if-tree-x.branch [
      | then-tree-x w ↦ inl (w.if-tree-x.true, w.tree-is)
      | else-tree-x w ↦ inr (w.if-tree-x.false, w.tree-is)
    ])

pub returns : goal.returns
returns c = let e : c.loop-x.x ≡ c.args.n = omega arith in rw e at c.loop-x.invariant.so_far
