use mathlib.Core.Path.{◌≡◌, refl, subst}
use native.Mathlib.Omega.{arith}
use Rattle.words.proofs.Put.{Put, put_none, put_more, put_read}
use Rattle.abreast.proofs.Fallen.{put_fell}
use Rattle.abreast.proofs.fall.Goals as goal

pub loop-q-init : goal.loop-q-init
loop-q-init c = (omega arith, refl, refl, put_none, put_none)

pub overflow_add-t : goal.overflow_add-t
overflow_add-t c = let p = c.requires in omega (arith, p.2)

pub offset_bounds-to-from : goal.offset_bounds-to-from
offset_bounds-to-from c = let p = c.requires in omega (arith, p.2)

pub bounds-to-from : goal.bounds-to-from
bounds-to-from c = let p = c.requires in omega (arith, p.2)

pub overflow_add-h : goal.overflow_add-h
overflow_add-h c = let p = c.requires in omega (arith, p.2)

pub offset_bounds-hop-from : goal.offset_bounds-hop-from
offset_bounds-hop-from c = let p = c.requires in omega (arith, p.2)

pub bounds-hop-from : goal.bounds-hop-from
bounds-hop-from c = let p = c.requires in omega (arith, p.2)

pub overflow_add-h-in-loop-q : goal.overflow_add-h-in-loop-q
overflow_add-h-in-loop-q c = omega (arith, c.requires.4 c.loop-q.q c.loop-q-test.true)

pub loop-q-preserved : goal.loop-q-preserved
loop-q-preserved c =
    let l = c.loop-q in
    let I = l.invariant in
    (omega arith, I.1, I.2, put_more l.t l.q l.q _ I.3 (omega arith) (omega (arith, I.1)) refl, put_more l.h l.q l.q _ I.4 (omega arith) (omega (arith, I.2)) refl)

pub loop-q-2-init : goal.loop-q-2-init
loop-q-2-init c = (omega arith, put_none, put_none)

pub overflow_add-to : goal.overflow_add-to
overflow_add-to c = let p = c.requires in omega (arith, p.3)

pub offset_bounds-to-at : goal.offset_bounds-to-at
offset_bounds-to-at c = let p = c.requires in omega (arith, p.3)

pub bounds-to-at : goal.bounds-to-at
bounds-to-at c = let p = c.requires in omega (arith, p.3)

pub overflow_add-hop : goal.overflow_add-hop
overflow_add-hop c = let p = c.requires in omega (arith, p.3)

pub offset_bounds-hop-at : goal.offset_bounds-hop-at
offset_bounds-hop-at c = let p = c.requires in omega (arith, p.3)

pub bounds-hop-at : goal.bounds-hop-at
bounds-hop-at c = let p = c.requires in omega (arith, p.3)

pub loop-q-2-preserved : goal.loop-q-2-preserved
loop-q-2-preserved c =
    let p = c.requires in
    let l = c.loop-q-2 in
    let I = l.invariant in
    let q = c.loop-q-2-test.true in
    let R = c.loop-q.invariant in (
      omega arith,
      put_more _ l.q _ _ I.1 refl (omega (arith, p.0, p.3)) (put_read R.3 l.q (omega (arith, c.loop-q-test.false))),
      put_more _ l.q _ _ I.2 refl (omega (arith, p.1, p.3)) (put_read R.4 l.q (omega (arith, c.loop-q-test.false))),
    )

pub returns : goal.returns
returns c =
    let l = c.loop-q-2 in
    let p = c.requires in
    let all : l.q ≡ 2 = omega (arith, l.invariant.0, c.loop-q-2-test.false) in
    put_fell _ _ _ _ _ _ p.0 p.1 (subst (Put _ _ _ _) all l.invariant.1) (subst (Put _ _ _ _) all l.invariant.2)
