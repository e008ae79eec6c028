-- A class that is kept is placed as an entry; of one that is not nothing is placed.
use Rattle.std.proofs.Common.{arith}
use Rattle.build.proofs.Pieces.{length-kept, entry_placed, entry_passed}
use Rattle.build.proofs.parts.put_entry.Goals as goal

pub put_pair-requires : goal.put_pair-requires
put_pair-requires c =
    let a = c.args in
    omega (arith, c.requires.3, length-kept a.t.now.bytes.now a.d a.s a.c c.keeps.result c.keeps.ensures c.if-keeps.true)

pub returns-then-keeps : goal.returns-then-keeps
returns-then-keeps c =
    let a = c.args in
    entry_placed a.t.now.bytes.now a.d a.s a.c c.keeps.result c.keeps.ensures a.room.now _ a.at _ c.if-keeps.true c.next.ensures c.put_pair.ensures

pub returns : goal.returns
returns c =
    let a = c.args in
    entry_passed a.t.now.bytes.now a.d a.s a.c c.keeps.result c.keeps.ensures a.room.now a.at c.if-keeps.false
