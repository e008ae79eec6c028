-- The check word is that of the part before the place.
use Rattle.std.proofs.Common.{length-take-le}
use Rattle.ending.proofs.check_before.Goals as goal

pub check_word-requires : goal.check_word-requires
check_word-requires c = rw (length-take-le c.args.at c.args.b.now c.requires.0) (c.requires.1, c.requires.2)
