-- The two numbers stand one behind the other.
use Rattle.words.proofs.Behind.{pair_placed}
use Rattle.build.proofs.parts.put_pair.Goals as goal

pub returns : goal.returns
returns c =
    pair_placed c.args.room.now _ _ c.args.at c.args.x c.args.y c.requires c.put16.ensures c.put16-2.ensures
