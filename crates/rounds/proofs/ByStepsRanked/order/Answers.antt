-- The names decide where they differ, else the rows.
use Rattle.std.proofs.Common.{sym}
use Rattle.std.proofs.lemmas.Cmp.{ranked}
use Rattle.naming.proofs.Ordered.{order_map}
use Rattle.rounds.proofs.Steps.{names_less, rows_same, rows_less}
use Rattle.rounds.proofs.ByStepsRanked.order.Goals as goal

pub returns-then-p-q : goal.returns-then-p-q
returns-then-p-q c =
    let s = c.args.self.now in
    order_map c.cmp.result (ranked _ _ c.cmp.result c.cmp.ensures)
    (λ l. names_less s.table.table.bytes.now s.name.now c.args.x c.args.y l)
    (λ w. absurd (c.if-p-q.true w))
    (λ l. names_less s.table.table.bytes.now s.name.now c.args.y c.args.x l)

pub returns : goal.returns
returns c =
    let s = c.args.self.now in
    let t = s.table.table.bytes.now in
    let p = s.name.now in
    let x = c.args.x in
    let y = c.args.y in
    order_map c.order_of_rows.result (rw s.table.table.counted.classes_are at c.order_of_rows.ensures)
    (λ q. rows_less t p x y c.if-p-q.false q)
    (λ q. rows_same t p x y c.if-p-q.false q)
    (λ q. rows_less t p y x (sym c.if-p-q.false) q)
