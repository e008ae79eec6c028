use mathlib.Core.Path.{refl, sym}
use mathlib.Core.Bool.{true≢false}
use native.Mathlib.Omega.{arith}
use borrow.Author.Rules.{rules}
use Rattle.abreast.proofs.Laying.{Next, laying_start, laying_next, laying_found, laying_more, laying_done}
use Rattle.abreast.proofs.lay.Goals as goal
use Rattle.abreast.proofs.lay.Goals.{In-loop-c}

-- What is known of the next entry in a turn.
next : (c : In-loop-c)
    → let l = c.loop-c in
    let a = c.args in
    Next a.b.now a.at a.first a.left l.place l.c l.invariant.count
next c = let p = c.requires in laying_next p.0 c.loop-c.invariant c.loop-c-test.true p.2

pub loop-c-init : goal.loop-c-init
loop-c-init c = let p = c.requires in laying_start p.0 c.args.class p.1 (omega (arith, c.ranges.class)) p.4 p.5

pub overflow_cast-c : goal.overflow_cast-c
overflow_cast-c c = omega (arith, c.loop-c.invariant.class_small)

pub overflow_add-first : goal.overflow_add-first
overflow_add-first c = omega (arith, c.requires.2)

pub overflow_cast-place : goal.overflow_cast-place
overflow_cast-place c = omega (arith, (next (goal.at.overflow_cast-place c).In-loop-c).inside, c.requires.0.small)

pub overflow_add-place : goal.overflow_add-place
overflow_add-place c = omega (arith, (next (goal.at.overflow_add-place c).In-loop-c).inside, c.requires.0.small)

pub get16-t-requires : goal.get16-t-requires
get16-t-requires c = omega (arith, (next (goal.at.get16-t-requires c).In-loop-c).inside)

pub overflow_cast-cell : goal.overflow_cast-cell
overflow_cast-cell c = omega (arith, c.loop-c.invariant.class_small)

pub overflow_sub-cell : goal.overflow_sub-cell
overflow_sub-cell c = omega (arith, (next (goal.at.overflow_sub-cell c).In-loop-c).from)

pub overflow_add-cell : goal.overflow_add-cell
overflow_add-cell c = let p = c.requires in omega (arith, (next (goal.at.overflow_add-cell c).In-loop-c).from, p.2, p.3)

pub offset_bounds-to-cell : goal.offset_bounds-to-cell
offset_bounds-to-cell c = let p = c.requires in omega (arith, (next (goal.at.offset_bounds-to-cell c).In-loop-c).from, c.loop-c-test.true, p.3)

pub bounds-to-cell : goal.bounds-to-cell
bounds-to-cell c = let p = c.requires in omega (arith, (next (goal.at.bounds-to-cell c).In-loop-c).from, c.loop-c-test.true, p.3)

pub returns-then-kept-t : goal.returns-then-kept-t
returns-then-kept-t c =
    let p = c.requires in (
      c.loop-c.invariant.overlaid.to_long,
      c.loop-c.invariant.overlaid.hop_long,
      laying_found p.0 c.loop-c.invariant c.loop-c-test.true p.2 _ _ c.get16-t.ensures refl c.if-kept-t.true,
    )

pub offset_bounds-to-cell-in-loop-c : goal.offset_bounds-to-cell-in-loop-c
offset_bounds-to-cell-in-loop-c c = let p = c.requires in omega (arith, (next (goal.at.offset_bounds-to-cell-in-loop-c c).In-loop-c).from, c.loop-c-test.true, p.3)

pub bounds-to-cell-in-loop-c : goal.bounds-to-cell-in-loop-c
bounds-to-cell-in-loop-c c = let p = c.requires in omega (arith, (next (goal.at.bounds-to-cell-in-loop-c c).In-loop-c).from, c.loop-c-test.true, p.3)

pub offset_bounds-hop-cell : goal.offset_bounds-hop-cell
offset_bounds-hop-cell c = let p = c.requires in omega (arith, (next (goal.at.offset_bounds-hop-cell c).In-loop-c).from, c.loop-c-test.true, p.3)

pub bounds-hop-cell : goal.bounds-hop-cell
bounds-hop-cell c = let p = c.requires in omega (arith, (next (goal.at.bounds-hop-cell c).In-loop-c).from, c.loop-c-test.true, p.3)

pub overflow_add-place-in-loop-c : goal.overflow_add-place-in-loop-c
overflow_add-place-in-loop-c c = omega (arith, (next (goal.at.overflow_add-place-in-loop-c c).In-loop-c).inside, c.requires.0.small)

pub overflow_sub-more : goal.overflow_sub-more
overflow_sub-more c = omega (arith, (next (goal.at.overflow_sub-more c).In-loop-c).there, c.loop-c.invariant.more_is)

pub head_class-c-requires : goal.head_class-c-requires
head_class-c-requires c more =
    let l = c.loop-c in
    let W = c.requires.0 in
    omega (arith, more, l.invariant.place_is, l.invariant.more_is, W.inside)

pub loop-c-smaller : goal.loop-c-smaller
loop-c-smaller c = omega (arith, (next (goal.at.loop-c-smaller c).In-loop-c).there, c.loop-c.invariant.more_is)

pub loop-c-preserved : goal.loop-c-preserved
loop-c-preserved c =
    let p = c.requires in
    laying_more p.0 c.loop-c.invariant c.loop-c-test.true p.2 _ _ c.head_class-c.result c.get16-t.ensures refl p.3 c.if-kept-t.false c.head_class-c.ensures (search rules)

pub returns : goal.returns
returns c =
    let p = c.requires in (
      c.loop-c.invariant.overlaid.to_long,
      c.loop-c.invariant.overlaid.hop_long,
      (c.loop-c.invariant.count, laying_done p.0 c.loop-c.invariant p.2 c.loop-c-test.false),
    )
