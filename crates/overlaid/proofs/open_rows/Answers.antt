use mathlib.Core.Path.{◌≡◌, ap, ◌∙◌}
use Prim.Native.Nat.{ℕ, ◌+◌, ◌*◌, ◌≤◌, ◌<◌}
use native.Mathlib.Omega.{arith}
use lib.ListN.{length}
use borrow.Author.Rules.{rules}
use Rattle.paper.specs.Words.{number16}
use Rattle.paper.specs.Patch.{records_at_of, default, count}
use Rattle.image.specs.Forms.{default_of, record_at_of}
use Rattle.image.specs.declared.Record.{Record}
use Rattle.image.proofs.Cases.{default_from}
use Rattle.abreast.specs.Opened.{row_of}
use Rattle.abreast.proofs.RowsOpened.{row_above_lem}
use Rattle.patch.proofs.Begins.{first_begin}
use Rattle.overlaid.proofs.Laid.{image_passed, listed-room, short}
use Rattle.overlaid.proofs.Rows.{row_in, laying_start, laying_more, laying_done}
use Rattle.overlaid.proofs.open_rows.Goals as goal
use Rattle.overlaid.proofs.open_rows.Goals.{After-record_at-record, After-records_at-records, After-state_at-s}

-- Listed states and records fit in the patch, and all numbers are small.
sized : (c : After-records_at-records)
    → let a = c.args in
    (c.records_at-records.result + 4 * a.p + 4 * a.q + 12 ≡ length a.x.now) × (10 + 2 * a.p ≤ length a.x.now) × (length a.x.now < 600000)
sized c = let O = c.requires.0 in (c.records_at-records.ensures.1, omega (arith, O.counts.shaped.long), short O)

-- The record that was read is the listed state's.
record_is : (c : After-record_at-record)
    → let x = c.args.x.now in
    (default_of c.record_at-record.result.fallback ≡ default x c.loop-i.i) × (c.record_at-record.result.count ≡ count x c.loop-i.i)
unfolding default count
record_is c =
    let x = c.args.x.now in
    let i = c.loop-i.i in
    let r : c.record_at-record.result ≡ record_at_of x (records_at_of x + 4 * i) = c.record_at-record.ensures ∙ ap (λ (y : ℕ). record_at_of x (y + 4 * i)) c.records_at-records.ensures.0 in
    (ap (λ (y : Record). default_of y.fallback) r ∙ default_from (number16 x (records_at_of x + 4 * i)), ap (λ (y : Record). y.count) r)

-- The entries of the listed state stand in the patch, and it has a place in the lists.
inside : (c : After-state_at-s)
    → let x = c.args.x.now in
    (c.loop-i.at + 4 * count x c.loop-i.i + 12 ≤ length x) × (length x < 600000) × (c.state_at-s.result < 512)
inside c =
    let O = c.requires.0 in
    let h = c.loop-i-test.true in
    (omega (arith, c.loop-i.invariant.at_is, row_in O c.loop-i.i h), short O, omega (arith, c.state_at-s.ensures, listed-room O c.loop-i.i h))

pub open_rows-requires : goal.open_rows-requires
open_rows-requires c = (image_passed c.requires.0, c.requires.1, c.requires.2, c.requires.3, c.requires.4)

pub records_at-records-requires : goal.records_at-records-requires
records_at-records-requires c = c.requires.0.counts.shaped

pub overflow_mul-at : goal.overflow_mul-at
overflow_mul-at c = omega (arith, sized (goal.at.overflow_mul-at c).After-records_at-records)

pub overflow_add-at : goal.overflow_add-at
overflow_add-at c = omega (arith, sized (goal.at.overflow_add-at c).After-records_at-records)

pub loop-i-init : goal.loop-i-init
loop-i-init c =
    let O = c.requires.0 in
    laying_start O _ (ap (λ (y : ℕ). y + 4 * c.args.p) c.records_at-records.ensures.0 ∙ first_begin O.counts) c.open_rows.ensures

pub state_at-s-requires : goal.state_at-s-requires
state_at-s-requires c = omega (arith, sized (goal.at.state_at-s-requires c).After-records_at-records, c.loop-i-test.true)

pub overflow_mul-i : goal.overflow_mul-i
overflow_mul-i c = omega (arith, sized (goal.at.overflow_mul-i c).After-records_at-records, c.loop-i-test.true)

pub overflow_add-records : goal.overflow_add-records
overflow_add-records c = omega (arith, sized (goal.at.overflow_add-records c).After-records_at-records, c.loop-i-test.true)

pub record_at-record-requires : goal.record_at-record-requires
record_at-record-requires c = omega (arith, sized (goal.at.record_at-record-requires c).After-records_at-records, c.loop-i-test.true)

pub offset_bounds-up-s : goal.offset_bounds-up-s
offset_bounds-up-s c = omega (arith, inside (goal.at.offset_bounds-up-s c).After-state_at-s)

pub bounds-up-s : goal.bounds-up-s
bounds-up-s c = omega (arith, inside (goal.at.bounds-up-s c).After-state_at-s)

pub overflow_cast-place : goal.overflow_cast-place
overflow_cast-place c = omega (arith, inside (goal.at.overflow_cast-place c).After-state_at-s)

pub offset_bounds-place-s : goal.offset_bounds-place-s
offset_bounds-place-s c = omega (arith, inside (goal.at.offset_bounds-place-s c).After-state_at-s)

pub bounds-place-s : goal.bounds-place-s
bounds-place-s c = omega (arith, inside (goal.at.bounds-place-s c).After-state_at-s)

pub offset_bounds-left-s : goal.offset_bounds-left-s
offset_bounds-left-s c = omega (arith, inside (goal.at.offset_bounds-left-s c).After-state_at-s)

pub bounds-left-s : goal.bounds-left-s
bounds-left-s c = omega (arith, inside (goal.at.bounds-left-s c).After-state_at-s)

pub overflow_cast-at : goal.overflow_cast-at
overflow_cast-at c = omega (arith, inside (goal.at.overflow_cast-at c).After-state_at-s)

pub head_class-requires : goal.head_class-requires
head_class-requires c = λ some. omega (arith, some, (record_is (goal.at.head_class-requires c).After-record_at-record).1, (inside (goal.at.head_class-requires c).After-state_at-s).0)

pub offset_bounds-wait-s : goal.offset_bounds-wait-s
offset_bounds-wait-s c = omega (arith, (inside (goal.at.offset_bounds-wait-s c).After-state_at-s).2)

pub bounds-wait-s : goal.bounds-wait-s
bounds-wait-s c = omega (arith, (inside (goal.at.bounds-wait-s c).After-state_at-s).2)

pub overflow_cast-at-in-loop-i : goal.overflow_cast-at-in-loop-i
overflow_cast-at-in-loop-i c = omega (arith, (record_is (goal.at.overflow_cast-at-in-loop-i c).After-record_at-record).1, inside (goal.at.overflow_cast-at-in-loop-i c).After-state_at-s)

pub overflow_mul-at-in-loop-i : goal.overflow_mul-at-in-loop-i
overflow_mul-at-in-loop-i c = omega (arith, (record_is (goal.at.overflow_mul-at-in-loop-i c).After-record_at-record).1, inside (goal.at.overflow_mul-at-in-loop-i c).After-state_at-s)

pub overflow_add-at-in-loop-i : goal.overflow_add-at-in-loop-i
overflow_add-at-in-loop-i c = omega (arith, (record_is (goal.at.overflow_add-at-in-loop-i c).After-record_at-record).1, inside (goal.at.overflow_add-at-in-loop-i c).After-state_at-s)

pub overflow_step-i : goal.overflow_step-i
overflow_step-i c = omega (arith, c.loop-i-test.true, sized (goal.at.overflow_step-i c).After-records_at-records)

pub loop-i-smaller : goal.loop-i-smaller
loop-i-smaller c = omega (arith, c.loop-i-test.true)

pub loop-i-preserved : goal.loop-i-preserved
loop-i-preserved c =
    let O = c.requires.0 in
    let (falls, many) = record_is (goal.at.loop-i-preserved c).After-record_at-record in
    laying_more O c.loop-i.invariant c.loop-i-test.true c.state_at-s.result c.unwrap_or.result c.record_at-record.result.count c.head_class.result c.state_at-s.ensures
    (c.unwrap_or.ensures ∙ row_above_lem c.record_at-record.result.fallback ∙ ap row_of falls) many c.head_class.ensures (search rules)

pub returns : goal.returns
returns c = laying_done c.requires.0 c.loop-i.invariant c.loop-i-test.false
