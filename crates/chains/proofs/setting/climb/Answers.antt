use Rattle.std.proofs.Common.{refl, arith}
use Rattle.chains.proofs.Defaults.{from_none, from_named}
use Rattle.chains.proofs.Climbs.{climb_starts, climb_on, climb_meets, climb_ends, climb_endless}
use Rattle.chains.proofs.setting.climb.Goals as goal

pub loop-t-init : goal.loop-t-init
loop-t-init c = (omega arith, climb_starts _ _ _ _ (omega arith))

pub returns-then-place-cur : goal.returns-then-place-cur
returns-then-place-cur c = (omega arith, climb_meets c.loop-t.invariant.1 c.if-place-cur.true)

pub returns-then-d : goal.returns-then-d
returns-then-d c =
    let l = c.loop-t in
    (omega arith, climb_ends l.invariant.1 _ (omega arith) c.if-place-cur.false (from_none _ c.if-d.true))

pub loop-t-preserved : goal.loop-t-preserved
loop-t-preserved c =
    let l = c.loop-t in (
      omega (arith, c.requires.2 l.cur l.invariant.0 c.if-d.false),
      climb_on l.invariant.1 _ _ (omega arith) c.if-place-cur.false (from_named _ _ c.if-d.false refl),
    )

pub returns : goal.returns
returns c = climb_endless c.loop-t.invariant.1 (omega arith)
