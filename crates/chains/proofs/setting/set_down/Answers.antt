use mathlib.Core.Path.{◌≡◌, refl}
use native.Mathlib.Omega.{arith}
use Rattle.chains.proofs.Room.{climbed_room}
use Rattle.chains.proofs.Marks.{Marked, marks_none, marks_more, at_hand_next}
use Rattle.chains.proofs.Behind.{marks_done}
use Rattle.chains.proofs.setting.set_down.Goals as goal

pub loop-i-init : goal.loop-i-init
loop-i-init c = (
  omega arith,
  climbed_room c.requires,
  c.requires.few,
  λ _. (refl, c.requires.below),
  marks_none c.requires,
)

pub overflow_cast-order : goal.overflow_cast-order
overflow_cast-order c = omega (arith, (c.loop-i.invariant.3 c.loop-i-test.true).1)

pub offset_bounds-place-cur : goal.offset_bounds-place-cur
offset_bounds-place-cur c = omega (arith, (c.loop-i.invariant.3 c.loop-i-test.true).1)

pub bounds-place-cur : goal.bounds-place-cur
bounds-place-cur c = omega (arith, (c.loop-i.invariant.3 c.loop-i-test.true).1)

pub offset_bounds-def-cur : goal.offset_bounds-def-cur
offset_bounds-def-cur c = omega (arith, (c.loop-i.invariant.3 c.loop-i-test.true).1)

pub bounds-def-cur : goal.bounds-def-cur
bounds-def-cur c = omega (arith, (c.loop-i.invariant.3 c.loop-i-test.true).1)

pub loop-i-preserved : goal.loop-i-preserved
loop-i-preserved c =
    let l = c.loop-i in
    let h = c.loop-i-test.true in (
      omega arith,
      l.invariant.1,
      l.invariant.2,
      at_hand_next c.requires l.i l.cur _ h l.invariant.3 refl,
      marks_more c.requires l.order l.place l.i _ l.cur h refl
          (l.invariant.3 h).0 l.invariant.4,
    )

pub returns : goal.returns
returns c =
    let l = c.loop-i in
    let a = c.args in
    let e : l.i ≡ a.t = omega arith in
    let M : Marked a.n a.def.now a.order.now a.place.now a.filled a.s a.t l.order l.place a.t = rw e at l.invariant.4 in
    marks_done c.requires M
