-- The numbers are the labels of edition 1 and the counts of edition 2, whose lists stand behind them.
use Rattle.std.proofs.Common.{◌≡◌, sym, ap, ◌∙◌, arith}
use Rattle.paper.specs.Labels.{two}
use Rattle.paper.specs.Table.{edition}
use Rattle.labels.specs.Editions.{edition_in}
use Rattle.words.specs.Placed.{placed}
use Rattle.reduce.proofs.Labels.{tags_one, length_held, labels_put}
use Rattle.reduce.proofs.left.Left.put_labels.Goals as goal
use Rattle.reduce.proofs.left.Left.put_labels.Goals.{In-Two}

-- The table is of edition 2.
second : (c : In-Two) → edition c.args.self.now.table.table.bytes.now ≡ two
second c = sym c.args.self.now.table.table.of_edition ∙ ap edition_in c.in-Two.is

pub put_lists-requires : goal.put_lists-requires
put_lists-requires c =
    let s = c.args.self.now in
    let e = second (goal.at.put_lists-requires c).In-Two in
    (e, omega (arith, c.requires, length_held s.table.table.bytes.now s.old s.count e))

pub returns-in-Two : goal.returns-in-Two
returns-in-Two c =
    let s = c.args.self.now in
    labels_put s.table.table.bytes.now s.old s.count c.args.room.now _ _ (second (goal.at.returns-in-Two c).In-Two) (omega (arith, c.requires)) c.put_tags.ensures c.put_lists.ensures

pub returns-in_default : goal.returns-in_default
returns-in_default c =
    let s = c.args.self.now in
    let t = s.table.table.bytes.now in
    c.put_tags.ensures ∙ ap (placed c.args.room.now 262) (tags_one t s.old s.count (sym s.table.table.of_edition ∙ ap edition_in c.in_default.is))
