use native.Mathlib.Omega.{arith}
use lib.ListN.{get_or}
use Rattle.sweep.proofs.Places.{cursor_fits, taken}
use Rattle.sweep.proofs.Taken.{taking_start, taking_more, taking_done}
use Rattle.sweep.proofs.take_class.Goals as goal

pub loop-s-init : goal.loop-s-init
loop-s-init c = let p = c.requires in taking_start _ _ p.3 p.4 p.2

pub offset_bounds-cursor-s : goal.offset_bounds-cursor-s
offset_bounds-cursor-s c = omega (arith, c.requires.0.few_states)

pub bounds-cursor-s : goal.bounds-cursor-s
bounds-cursor-s c = omega (arith, c.requires.0.few_states)

pub overflow_add-end : goal.overflow_add-end
overflow_add-end c = omega (arith, c.requires.0.few_states)

pub offset_bounds-begins-s : goal.offset_bounds-begins-s
offset_bounds-begins-s c = omega (arith, c.requires.0.few_states)

pub bounds-begins-s : goal.bounds-begins-s
bounds-begins-s c = omega (arith, c.requires.0.few_states)

pub own_at-taken-requires : goal.own_at-taken-requires
own_at-taken-requires c =
    let l = c.loop-s in
    let a = c.args in
    let fits = cursor_fits c.requires.0 a.begins.now c.requires.1 a.class l.s _ (omega arith) (l.invariant.left l.s (omega arith) (omega arith)) in
    (fits.0, fits.1)

pub offset_bounds-own-s : goal.offset_bounds-own-s
offset_bounds-own-s c = omega (arith, c.requires.0.few_states)

pub bounds-own-s : goal.bounds-own-s
bounds-own-s c = omega (arith, c.requires.0.few_states)

pub next_place-requires : goal.next_place-requires
next_place-requires c =
    let l = c.loop-s in
    let a = c.args in
    (cursor_fits c.requires.0 a.begins.now c.requires.1 a.class l.s _ (omega arith) (l.invariant.left l.s (omega arith) (omega arith))).2

pub offset_bounds-cursor-s-in-loop-s : goal.offset_bounds-cursor-s-in-loop-s
offset_bounds-cursor-s-in-loop-s c = omega (arith, c.requires.0.few_states)

pub bounds-cursor-s-in-loop-s : goal.bounds-cursor-s-in-loop-s
bounds-cursor-s-in-loop-s c = omega (arith, c.requires.0.few_states)

pub overflow_step-s : goal.overflow_step-s
overflow_step-s c = omega (arith, c.requires.0.few_states)

pub loop-s-preserved : goal.loop-s-preserved
loop-s-preserved c =
    let l = c.loop-s in
    let a = c.args in
    let x = c.own_at-taken.result in
    let K = taken c.requires.0 a.begins.now c.requires.1 a.class l.s (get_or l.cursor l.s 0) (omega arith) (l.invariant.left l.s (omega arith) (omega arith)) x c.own_at-taken.ensures in
    taking_more l.invariant c.requires.0.few_states (omega arith) x c.next_place.result (rw c.next_place.ensures K)

pub returns : goal.returns
returns c =
    let l = c.loop-s in
    let done = taking_done l.invariant c.loop-s-test.false in
    (done.0, done.1, l.invariant.cursor_long, l.invariant.own_long)
