-- The state that names x is the first with its steps where it has them at all.
use Rattle.std.proofs.Common.{sym, ◌∙◌}
use Rattle.rounds.proofs.Steps.{first_head, is_same}
use Rattle.rounds.proofs.ByStepsRanked.earlier.Goals as goal

pub returns-then-is_eq : goal.returns-then-is_eq
returns-then-is_eq c =
    let s = c.args.self.now in
    (c.if-block-x.true, first_head s.table.table.bytes.now s.name.now s.headed c.args.x c.requires.inside c.requires.counts (is_same _ _ _ c.order.result c.order.ensures (sym c.is_eq.ensures ∙ c.if-is_eq.true)))
