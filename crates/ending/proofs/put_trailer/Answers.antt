-- The three numbers stand one behind the other.
use Rattle.ending.proofs.Trailer.{trailer-placed}
use Rattle.ending.proofs.put_trailer.Goals as goal

pub returns : goal.returns
returns c =
    let a = c.args in
    trailer-placed a.room.now _ _ _ a.at a.n a.m a.held c.image_length-whole.result a.worst c.requires.3 c.image_length-whole.ensures c.put32.ensures c.put32-2.ensures c.put16.ensures
