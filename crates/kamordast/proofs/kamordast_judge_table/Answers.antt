-- The promise is that of `table::judge_table`, on the same bytes.
use Rattle.kamordast.proofs.kamordast_judge_table.Goals as goal

pub returns : goal.returns
returns c = c.judge_table.ensures
