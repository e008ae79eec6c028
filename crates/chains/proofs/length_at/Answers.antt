-- The length at a state meets its contract.
use Rattle.std.proofs.Common.{get_or, refl, arith}
use Rattle.chains.proofs.Defaults.{from_named}
use Rattle.chains.proofs.Depth.{length_here, length-next, length_below}
use Rattle.chains.proofs.length_at.Goals as goal

pub returns-then-d : goal.returns-then-d
returns-then-d c = let a = c.args in length_here a.n a.def.now a.s c.requires.1 c.if-d.true

pub offset_bounds-len-d : goal.offset_bounds-len-d
offset_bounds-len-d c = omega (arith, c.requires.2 _ c.requires.1 c.if-d.false)

pub bounds-len-d : goal.bounds-len-d
bounds-len-d c = omega (arith, c.requires.2 _ c.requires.1 c.if-d.false)

pub overflow_add-result : goal.overflow_add-result
overflow_add-result c =
    let a = c.args in
    let d = get_or a.def.now a.s 0 in
    omega (arith, c.requires.0, length_below a.n a.def.now d _ (c.requires.3 d (from_named _ d c.if-d.false refl)))

pub returns : goal.returns
returns c =
    let a = c.args in
    let d = get_or a.def.now a.s 0 in
    let e = from_named _ d c.if-d.false refl in
    length-next a.n a.def.now c.requires.2 a.s d _ c.requires.1 e (c.requires.3 d e)
