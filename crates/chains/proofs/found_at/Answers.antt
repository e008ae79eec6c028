-- The look-up at a state meets its contract.
use Prim.Native.Nat.{ℕ}
use mathlib.Core.Path.{refl}
use native.Mathlib.Omega.{arith}
use lib.ListN.{get_or}
use Rattle.chains.proofs.Sweeps.{reckoned_own, reckoned_on}
use Rattle.chains.proofs.found_at.Goals as goal

pub returns-then-t : goal.returns-then-t
returns-then-t c = reckoned_own _ _ _ c.if-t.true

pub offset_bounds-to-d : goal.offset_bounds-to-d
offset_bounds-to-d c = omega (arith, (c.requires.1 c.if-t.false).0)

pub bounds-to-d : goal.bounds-to-d
bounds-to-d c = omega (arith, (c.requires.1 c.if-t.false).0)

pub offset_bounds-hop-d : goal.offset_bounds-hop-d
offset_bounds-hop-d c = omega (arith, (c.requires.1 c.if-t.false).0)

pub bounds-hop-d : goal.bounds-hop-d
bounds-hop-d c = omega (arith, (c.requires.1 c.if-t.false).0)

pub overflow_add-hops : goal.overflow_add-hops
overflow_add-hops c =
    omega (arith, (c.requires.1 c.if-t.false).1)

pub returns : goal.returns
returns c =
    let h = c.if-t.false in
    reckoned_on _ _ _ c.args.to.now c.args.hop.now h (c.requires.1 h).0 refl
