-- A root takes no hop, nor does a state that stores the class; any other takes one more than its default.
use native.Mathlib.Omega.{arith}
use Rattle.rewrite.proofs.Hopping.{hop_root, hop_own, hop_on}
use Rattle.rewrite.proofs.rewriting.hop_at.Goals as goal

pub returns-then-d : goal.returns-then-d
returns-then-d c = let a = c.args in hop_root a.stay.now a.own.now a.hop.now a.s c.if-d.true

pub returns-then-x : goal.returns-then-x
returns-then-x c =
    let a = c.args in
    hop_own a.stay.now a.own.now a.hop.now a.s c.if-d.false c.if-x.true

pub overflow_cast-result : goal.overflow_cast-result
overflow_cast-result c = omega (arith, (c.requires.1 c.if-d.false).0)

pub offset_bounds-hop-d : goal.offset_bounds-hop-d
offset_bounds-hop-d c = omega (arith, (c.requires.1 c.if-d.false).0)

pub bounds-hop-d : goal.bounds-hop-d
bounds-hop-d c = omega (arith, (c.requires.1 c.if-d.false).0)

pub overflow_add-result : goal.overflow_add-result
overflow_add-result c = omega (arith, (c.requires.1 c.if-d.false).1)

pub returns : goal.returns
returns c =
    let a = c.args in
    hop_on a.stay.now a.own.now a.hop.now a.s c.if-d.false c.if-x.false
