use Rattle.rewrite.proofs.Setting.{table_states}
use Rattle.rewrite.proofs.rewriting.RewritingSource.states.Goals as goal

pub returns : goal.returns
returns c = table_states c.args.self.now
