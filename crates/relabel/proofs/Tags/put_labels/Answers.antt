use mathlib.Core.Path.{◌≡◌, refl}
use native.Mathlib.Omega.{arith}
use Rattle.words.proofs.Laid.{laid_none, laid_room, laid_more}
use Rattle.relabel.proofs.Tags.put_labels.Goals as goal

pub loop-s-init : goal.loop-s-init
loop-s-init c = laid_none _ _ _ _ refl

pub put_label-at-requires : goal.put_label-at-requires
put_label-at-requires c =
    rw c.tag.ensures (laid_room c.loop-s.invariant c.args.self.now.n c.loop-s-test.true c.requires)

pub loop-s-preserved : goal.loop-s-preserved
loop-s-preserved c =
    let (far, there) = rw c.tag.ensures at c.put_label-at.ensures in
    laid_more c.loop-s.invariant c.args.self.now.n c.loop-s-test.true c.requires _ _ far there

pub returns : goal.returns
returns c = let e : c.loop-s.s ≡ c.args.self.now.n = omega arith in rw e at c.loop-s.invariant.laid
