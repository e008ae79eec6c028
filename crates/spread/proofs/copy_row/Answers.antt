use Rattle.std.proofs.Common.{◌≡◌, arith}
use Rattle.spread.proofs.Copying.{copied_none, copied_more}
use Rattle.spread.proofs.copy_row.Goals as goal

pub loop-c-init : goal.loop-c-init
loop-c-init c = copied_none _ _ _

pub get16-x-requires : goal.get16-x-requires
get16-x-requires c = omega (arith, c.loop-c.invariant.kept.long)

pub put16-requires : goal.put16-requires
put16-requires c = omega (arith, c.loop-c.invariant.kept.long)

pub loop-c-preserved : goal.loop-c-preserved
loop-c-preserved c =
    rw c.put16.ensures (copied_more c.loop-c.invariant c.args.k c.requires.2 (omega arith) c.get16-x.result (omega arith) (omega arith) c.get16-x.ensures)

pub returns : goal.returns
returns c = let all : c.loop-c.c ≡ c.args.k = omega arith in rw all at c.loop-c.invariant
