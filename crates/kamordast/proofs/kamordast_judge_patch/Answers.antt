-- The promise is that of `judgepatch::judge_patch`, on the same bytes.
use Rattle.kamordast.proofs.kamordast_judge_patch.Goals as goal

pub returns : goal.returns
returns c = c.judge_patch.ensures
