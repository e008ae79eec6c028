use mathlib.Core.Path.{◌≡◌, ap, ◌∙◌}
use Prim.Native.Nat.{ℕ, ◌+◌, ◌*◌, ◌≤◌}
use native.Mathlib.Omega.{arith}
use lib.ListN.{length}
use Rattle.paper.specs.Words.{bytes16}
use Rattle.words.specs.Placed.{placed}
use Rattle.words.proofs.Laid.{laid_none, laid_more}
use Rattle.relabel.specs.Pieces.{numbered}
use Rattle.relabel.proofs.Across.{many_numbered, length-count, length-counts}
use Rattle.relabel.proofs.Tags.put_counts.Goals as goal
use Rattle.relabel.proofs.Tags.put_counts.Goals.{After-how_many-count}

-- The state has so many labels, and at most one.
many : (c : After-how_many-count) →
    (c.how_many-count.result ≡ length (numbered c.args.self.now.image.now c.loop-s.s)) × (c.how_many-count.result ≤ 1)
many c =
    many_numbered c.args.self.now.image.now c.loop-s.s c.tag.result c.how_many-count.result c.tag.ensures c.how_many-count.ensures

pub loop-s-init : goal.loop-s-init
loop-s-init c = laid_none _ _ _ _ (omega arith)

pub loop-s-preserved : goal.loop-s-preserved
loop-s-preserved c =
    let a = c.args in
    let fits = length-counts c.args.self.now.image.now c.args.self.now.n in
    laid_more c.loop-s.invariant c.args.self.now.n (omega arith) (omega (arith, c.requires)) _ _ (omega (arith, length-count c.args.self.now.image.now c.loop-s.s))
    (c.put16.ensures ∙ ap (λ (x : ℕ). placed c.loop-s.room (268 + 2 * c.loop-s.s) (bytes16 x)) (many (goal.at.loop-s-preserved c).After-how_many-count).0)

pub returns : goal.returns
returns c = let e : c.loop-s.s ≡ c.args.self.now.n = omega arith in rw e at c.loop-s.invariant.laid
