-- Each way out is the first of the last three grounds that applies: what is ordered and swept decides them.
use Rattle.std.proofs.Common.{◌≡◌, List, ℕ, refl, ap, ◌∙◌}
use Rattle.std.proofs.lemmas.Result.{err_from_is_err_and}
use Rattle.paper.specs.Refusals.{first}
use Rattle.paper.specs.Image.{entries, depth, worst, class_of, image_view}
use Rattle.image.specs.Grounds.{later_grounds}
use Rattle.image.proofs.Passed.{passed_for}
use Rattle.sweep.proofs.Imaged.{later_last}
use Rattle.sweep.proofs.Verdict.{last_of, told_eleven, told_twelve, told_depth, told_worst, told_none}
use Rattle.sweep.proofs.last_grounds.Goals as goal

-- The last grounds of an image are those of its view.
image_last : (b : List ℕ) (r : ℕ) → r ≡ last_of (image_view b) (class_of b) (entries b) (depth b) (worst b) → r ≡ first (later_grounds b)
image_last b r e = e ∙ ap first (later_last b)

pub ordered-answer-requires : goal.ordered-answer-requires
ordered-answer-requires c = let P = c.requires in passed_for P.classes_are refl P

pub sweep-requires : goal.sweep-requires
sweep-requires c = (c.requires, (rw c.in-Ok.is at c.ordered-answer.ensures.ordered).1)

pub returns-in-Err : goal.returns-in-Err
returns-in-Err c = image_last c.args.image.now _ (told_eleven (image_view c.args.image.now) _ _ _ _ _ (rw c.in-Err.is at c.ordered-answer.ensures.endless))

pub returns-in_err-far : goal.returns-in_err-far
returns-in_err-far c =
    let p = err_from_is_err_and c.from_residual.result c.from_residual.ensures.1 in
    rw (p.1, p.2) (image_last c.args.image.now _ (told_twelve (image_view c.args.image.now) _ _ _ _ (rw c.in-Ok.is at c.ordered-answer.ensures.endless) _ c.in_err-far.ensures.needless))

pub returns-then-depth-deep : goal.returns-then-depth-deep
returns-then-depth-deep c =
    image_last c.args.image.now 13
    (told_depth (image_view c.args.image.now) _ _ _ _ (rw c.in-Ok.is at c.ordered-answer.ensures.endless) c.in_ok-far.ensures.needless _ (rw c.in-Ok.is at c.ordered-answer.ensures.ordered).0 _ c.get16-depth.ensures c.if-depth-deep.true)

pub returns-then-worst-far : goal.returns-then-worst-far
returns-then-worst-far c =
    image_last c.args.image.now 13
    (told_worst (image_view c.args.image.now) _ _ _ _ (rw c.in-Ok.is at c.ordered-answer.ensures.endless) c.in_ok-far.ensures.needless _ c.in_ok-far.ensures.worst _ c.get16-worst.ensures c.if-worst-far.true)

pub returns : goal.returns
returns c =
    image_last c.args.image.now 0
    (told_none (image_view c.args.image.now) _ _ _ _ (rw c.in-Ok.is at c.ordered-answer.ensures.endless) c.in_ok-far.ensures.needless _ _ (rw c.in-Ok.is at c.ordered-answer.ensures.ordered).0 c.in_ok-far.ensures.worst _ _ c.get16-depth.ensures c.get16-worst.ensures
    c.if-depth-deep.false c.if-worst-far.false)
