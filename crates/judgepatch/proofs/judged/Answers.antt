-- A refusal of the image is the patch's; where the image is accepted the other grounds decide.
use Rattle.std.proofs.lemmas.Result.{err_from_is_err_and}
use Rattle.answers.proofs.Told.{not_zero}
use Rattle.judgepatch.proofs.Grounds.{judged_image}
use Rattle.judgepatch.proofs.judged.Goals as goal

pub returns-in_err-image-clause-number : goal.returns-in_err-image-clause-number
returns-in_err-image-clause-number c =
    let p = err_from_is_err_and c.from_residual.result c.from_residual.ensures.1 in
    rw (p.1, p.2) (judged_image _ _ _ c.in_err-image.ensures.number (not_zero _))
