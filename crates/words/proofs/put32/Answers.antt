-- The two halves placed one after the other are the number placed.
use Rattle.std.proofs.Common.{arith}
use Rattle.words.proofs.Written.{written32}
use Rattle.words.proofs.put32.Goals as goal

pub returns : goal.returns
returns c =
    let a = c.args in written32 a.room.now _ _ a.at a.x (omega arith) c.put16.ensures c.put16-2.ensures
