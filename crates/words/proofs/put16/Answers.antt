-- The two bytes stored are placed.
use Rattle.std.proofs.Common.{◌≡◌, ◌/◌, ◌%◌, arith}
use Rattle.words.proofs.Written.{written16}
use Rattle.words.proofs.put16.Goals as goal

pub returns : goal.returns
returns c =
    let e : c.args.x / 256 % 256 ≡ c.args.x / 256 = omega (arith, c.ranges.x) in
    rw (c.to_le_bytes.ensures, e) (written16 c.args.room.now c.args.at c.args.x (omega arith) (omega (arith, c.ranges.x)))
