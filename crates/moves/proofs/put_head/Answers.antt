-- The first word stands before what is copied.
use Rattle.moves.proofs.Filled.{head_put}
use Rattle.moves.proofs.put_head.Goals as goal

pub returns : goal.returns
returns c =
    head_put c.args.image.now c.args.room.now _ _ c.args.word c.requires.1 c.put16.ensures c.put_bytes.ensures
