-- Each way out is the first of the last three grounds that applies: what is ordered and swept decides them.
use Rattle.std.proofs.Common.{◌≡◌, List, ℕ}
use Rattle.std.proofs.lemmas.Result.{err_from_is_err_and}
use Rattle.paper.specs.Below.{sum}
use Rattle.paper.specs.Refusals.{first}
use Rattle.paper.specs.Image.{states, class_of}
use Rattle.paper.specs.Patch.{patched_view, depth, worst}
use Rattle.sweep.proofs.Verdict.{last_of, told_eleven, told_twelve, told_depth, told_worst, told_none}
use Rattle.overlaid.specs.Chosen.{last_grounds_of}
use Rattle.overlaid.proofs.last_grounds.Goals as goal

-- The last grounds of an image with a patch are those of the view of both.
patch_last : (b x : List ℕ) (r : ℕ) → r ≡ last_of (patched_view b x) (class_of b) (sum (states b) (patched_view b x).count) (depth x) (worst x) → r ≡ first (last_grounds_of b x)
unfolding last_grounds_of
patch_last b x r e = e

pub sweep-requires : goal.sweep-requires
sweep-requires c = (c.requires, c.in_ok-chains.ensures.ordered.1)

pub returns-in_err-chains : goal.returns-in_err-chains
returns-in_err-chains c =
    let p = err_from_is_err_and c.from_residual.result c.from_residual.ensures.1 in
    rw (p.1, p.2) (patch_last c.args.image.now c.args.x.now _ (told_eleven (patched_view c.args.image.now c.args.x.now) _ _ _ _ _ c.in_err-chains.ensures.endless))

pub returns-in_err-far : goal.returns-in_err-far
returns-in_err-far c =
    let p = err_from_is_err_and c.from_residual-in_err-far.result c.from_residual-in_err-far.ensures.1 in
    rw (p.1, p.2) (patch_last c.args.image.now c.args.x.now _ (told_twelve (patched_view c.args.image.now c.args.x.now) _ _ _ _ c.in_ok-chains.ensures.endless _ c.in_err-far.ensures.needless))

pub returns-then-depth-deep : goal.returns-then-depth-deep
returns-then-depth-deep c =
    patch_last c.args.image.now c.args.x.now 13
    (told_depth (patched_view c.args.image.now c.args.x.now) _ _ _ _ c.in_ok-chains.ensures.endless c.in_ok-far.ensures.needless _ c.in_ok-chains.ensures.ordered.0 _ c.get16-depth.ensures c.if-depth-deep.true)

pub returns-then-worst-far : goal.returns-then-worst-far
returns-then-worst-far c =
    patch_last c.args.image.now c.args.x.now 13
    (told_worst (patched_view c.args.image.now c.args.x.now) _ _ _ _ c.in_ok-chains.ensures.endless c.in_ok-far.ensures.needless _ c.in_ok-far.ensures.worst _ c.get16-worst.ensures c.if-worst-far.true)

pub returns : goal.returns
returns c =
    patch_last c.args.image.now c.args.x.now 0
    (told_none (patched_view c.args.image.now c.args.x.now) _ _ _ _ c.in_ok-chains.ensures.endless c.in_ok-far.ensures.needless _ _ c.in_ok-chains.ensures.ordered.0 c.in_ok-far.ensures.worst _ _ c.get16-depth.ensures c.get16-worst.ensures
    c.if-depth-deep.false c.if-worst-far.false)
