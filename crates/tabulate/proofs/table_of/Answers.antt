-- The first of the grounds 26, 27 and 19 that applies refuses; else the last two are left.
use Rattle.std.proofs.Common.{sym}
use Rattle.tabulate.proofs.Ways.{shape_refuses, labels_refuse, states_refuse, lists_pass}
use Rattle.tabulate.proofs.table_of.Goals as goal

pub returns-in_default : goal.returns-in_default
returns-in_default c = shape_refuses c.args.list.now c.args.room.now c.in_default.ensures

pub returns-then-labels_bad : goal.returns-then-labels_bad
returns-then-labels_bad c =
    let (g, e) = c.in-Some.ensures in
    labels_refuse c.args.list.now c.args.room.now g (sym (rw e at c.if-labels_bad.ensures))

pub returns-then-crowded : goal.returns-then-crowded
returns-then-crowded c =
    let (g, e) = c.in-Some.ensures in
    states_refuse c.args.list.now c.args.room.now g (sym (rw e at c.if-labels_bad.ensures)) (sym (rw e at c.if-crowded.ensures))

pub returns : goal.returns
returns c =
    let (g, e) = c.in-Some.ensures in
    lists_pass c.args.list.now c.args.room.now g (sym (rw e at c.if-labels_bad.ensures)) (sym (rw e at c.if-crowded.ensures)) _ _ _ (rw e at c.table_into.ensures)
