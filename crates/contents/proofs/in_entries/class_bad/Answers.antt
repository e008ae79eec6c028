-- A class below k is held against the one before, where there is one.
use Rattle.contents.proofs.Rows.{class_high_lem, class_first, class_later}
use Rattle.contents.proofs.in_entries.class_bad.Goals as goal

pub returns-then-k-class : goal.returns-then-k-class
returns-then-k-class c = let t = c.args in class_high_lem t.k t.row.now t.j _ c.get16-class.ensures c.if-k-class.true

pub returns-then-j-eq0 : goal.returns-then-j-eq0
returns-then-j-eq0 c =
    let t = c.args in
    class_first t.k t.row.now t.j _ c.get16-class.ensures c.if-k-class.false c.if-j-eq0.true

pub returns : goal.returns
returns c =
    let t = c.args in
    class_later t.k t.row.now t.j _ c.get16-class.ensures c.if-k-class.false c.if-j-eq0.false _ c.get16.ensures
