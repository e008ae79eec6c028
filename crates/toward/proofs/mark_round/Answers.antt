use Rattle.std.proofs.Common.{refl, ◌∙◌, arith, rules, ◌+◌}
use Rattle.toward.specs.Marked.{level_in}
use Rattle.toward.proofs.Marks.{round_hit, round_sought, next_behind, next_place, has_first}
use Rattle.toward.proofs.mark_round.Goals as goal

pub loop-next-init : goal.loop-next-init
loop-next-init c =
    let a = c.args in
    let n = a.t.now.table.n in
    let old = a.levels.now in
    let found = c.next_at-first in
    record {
      place = next_place n (level_in old) 0 a.level found.result found.ensures;
      marks = round_sought a.t.now.table.bytes.now old old a.level n c.requires 0 found.result (omega arith) found.ensures (record { long = search rules; each_is = λ x. refl });
    }

pub loop-next-smaller : goal.loop-next-smaller
loop-next-smaller c =
    let n = c.args.t.now.table.n in
    let place = rw c.in-Some.is at c.loop-next.invariant.place in
    let found = c.next_at-next in
    let behind = next_behind n (level_in c.mark_row.new.levels) (c.in-Some.s + 1) c.args.level found.result (omega (arith, place.0)) found.ensures in
    rw c.in-Some.is (omega (arith, behind, place.0))

pub loop-next-preserved : goal.loop-next-preserved
loop-next-preserved c =
    let a = c.args in
    let t = a.t.now.table.bytes.now in
    let n = a.t.now.table.n in
    let old = a.levels.now in
    let l = c.loop-next in
    let s = c.in-Some.s in
    let place = rw c.in-Some.is at l.invariant.place in
    let before = rw c.in-Some.is at l.invariant.marks in
    let new = c.mark_row.new.levels in
    let found = c.next_at-next in
    record {
      place = next_place n (level_in new) (s + 1) a.level found.result found.ensures;
      marks = round_sought t old new a.level n c.requires (s + 1) found.result (omega (arith, place.0)) found.ensures
          (round_hit t old l.levels a.level s c.requires before new place.1 c.mark_row.ensures);
    }

pub returns : goal.returns
returns c =
    let a = c.args in
    let found = c.next_at-first in
    (rw c.in_default.is at c.loop-next.invariant.marks, c.is_some.ensures ∙ has_first a.levels.now a.level a.t.now.table.n found.result found.ensures)
