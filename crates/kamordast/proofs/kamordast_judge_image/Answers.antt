-- The promise is that of `judge::judge_image`, on the same bytes.
use Rattle.kamordast.proofs.kamordast_judge_image.Goals as goal

pub returns : goal.returns
returns c = c.judge_image.ensures
