use Prim.Native.Nat.{◌+◌, ◌/◌}
use native.Mathlib.Omega.{arith}
use Rattle.image.proofs.Rows.{under_none, under_to, over_from}
use Rattle.image.proofs.near.Goals as goal

pub loop-low-init : goal.loop-low-init
loop-low-init c = (under_none c.requires c.args.class, omega arith, omega arith, λ i h l. absurd (omega arith))

pub loop-low-preserved-then-get16-class : goal.loop-low-preserved-then-get16-class
loop-low-preserved-then-get16-class c =
    (under_to c.requires c.args.class ((c.loop-low.low + c.loop-low.high) / 2) (omega arith) (omega arith), omega arith, omega arith, c.loop-low.invariant.3)

pub loop-low-preserved : goal.loop-low-preserved
loop-low-preserved c =
    (c.loop-low.invariant.0, omega arith, omega arith, over_from c.requires c.args.class ((c.loop-low.low + c.loop-low.high) / 2) (omega arith) (omega arith))

pub returns : goal.returns
returns c = let l = c.loop-low in record { before = l.invariant.0; behind = λ i h k. l.invariant.3 i (omega arith) k }
