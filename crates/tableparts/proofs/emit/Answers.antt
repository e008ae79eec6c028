-- Each part is written behind the one before it; together they fill the room.
use Rattle.std.proofs.Common.{◌≡◌, ◌+◌, ◌*◌, ◌≤◌, length, take, ap, ◌∙◌, arith}
use lib.Seq.{length-take-le}
use Rattle.paper.specs.Below.{each}
use Rattle.words.specs.Placed.{placed}
use Rattle.labelling.specs.Ended.{labels_at}
use Rattle.tableparts.proofs.Written.{length-assembled, emitted, first_numbers}
use Rattle.tableparts.proofs.emit.Goals as goal
use Rattle.tableparts.proofs.emit.Goals.{Start}

-- There is room for all parts.
fits : (t : Start) → let a = t.args in let n = a.named.now.names.now in
    (262 + 2 * n.count + length (each n.count (labels_at a.named.now.list.now.bytes.now n.from n.long)) + 2 * (n.count * a.classes.now.count) ≤ length a.room.now) × (n.count ≤ 512) × (length (take n.count a.counts.now) ≡ n.count)
fits t =
    let a = t.args in
    let n = a.named.now.names.now in
    (omega (arith, t.requires.1, length-assembled a.named.now.list.now.bytes.now n.from n.long n.count a.classes.now.count a.classes.now.of a.counts.now a.rows.now), n.few, length-take-le n.count a.counts.now (omega (arith, n.few)))

pub put_head-requires : goal.put_head-requires
put_head-requires c = (c.args.named.now.names.now.few, c.args.classes.now.few, omega (arith, fits (goal.at.put_head-requires c).Start))

pub put_classes-requires : goal.put_classes-requires
put_classes-requires c = omega (arith, fits (goal.at.put_classes-requires c).Start)

pub put_numbers-requires : goal.put_numbers-requires
put_numbers-requires c = omega (arith, fits (goal.at.put_numbers-requires c).Start)

pub put_labels-end-requires : goal.put_labels-end-requires
put_labels-end-requires c = (c.requires.0, omega (arith, fits (goal.at.put_labels-end-requires c).Start))

pub put_rows-requires : goal.put_rows-requires
put_rows-requires c =
    (c.args.named.now.names.now.few, c.args.classes.now.few, omega (arith, fits (goal.at.put_rows-requires c).Start, c.put_labels-end.ensures.0))

pub returns : goal.returns
returns c =
    let a = c.args in
    let n = a.named.now.names.now in
    let (p, q, r) = fits (goal.at.returns c).Start in
    emitted a.named.now.list.now.bytes.now n.from n.long n.count a.classes.now.count a.classes.now.of a.counts.now a.rows.now a.room.now _ _ _ _ _ c.put_labels-end.result c.requires.1
    c.put_head.ensures c.put_classes.ensures (c.put_numbers.ensures ∙ ap (placed c.put_classes.new.room 262) (first_numbers a.counts.now n.count (omega arith))) c.put_labels-end.ensures c.put_rows.ensures
