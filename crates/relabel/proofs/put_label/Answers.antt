-- Of a number that is 0 nothing is placed, any other is the label.
use native.Mathlib.Omega.{arith}
use Rattle.relabel.proofs.Across.{label_none, label_wide, label_some}
use Rattle.relabel.proofs.put_label.Goals as goal

pub returns-then-tag-eq0 : goal.returns-then-tag-eq0
returns-then-tag-eq0 c = let a = c.args in label_none a.room.now a.at a.tag c.if-tag-eq0.true

pub put16-requires : goal.put16-requires
put16-requires c = omega (arith, c.requires, label_wide c.args.tag c.if-tag-eq0.false)

pub returns : goal.returns
returns c =
    let a = c.args in
    label_some a.room.now _ a.at a.tag c.if-tag-eq0.false c.put16.ensures
