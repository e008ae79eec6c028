use mathlib.Core.Path.{◌≡◌, sym, ap, ◌∙◌}
use Prim.Native.Nat.{◌+◌, ◌*◌, ◌≤◌, ◌<◌}
use native.Mathlib.Omega.{arith}
use lib.ListN.{length}
use borrow.Author.Rules.{rules}
use Rattle.paper.specs.Image.{records_at_of, default, entry_at, count}
use Rattle.image.specs.Forms.{default_of, record_at_of}
use Rattle.image.specs.declared.Record.{Record}
use Rattle.image.proofs.Begins.{Sizes, sizes, entries-behind}
use Rattle.image.proofs.Cases.{record_default}
use Rattle.abreast.specs.Opened.{row_of}
use Rattle.abreast.proofs.RowsOpened.{row_above_lem, row_in, opening_start, opening_more, opening_done}
use Rattle.abreast.proofs.opening.open_rows.Goals as goal
use Rattle.abreast.proofs.opening.open_rows.Goals.{After-record_at-record, After-records_at-records, In-loop-s}

-- Records and entries fit in the image.
sized : (c : After-records_at-records) → Sizes c.args.image.now c.args.n c.records_at-records.result
sized c =
    sizes c.args.image.now c.requires.0.laid c.args.n c.records_at-records.result c.requires.0.states_are c.records_at-records.ensures

-- The record that was read is the state's.
record_is : (c : After-record_at-record)
    → let b = c.args.image.now in
    (default b c.loop-s.s ≡ default_of c.record_at-record.result.fallback) × (c.record_at-record.result.count ≡ count b c.loop-s.s)
unfolding count
record_is c =
    let b = c.args.image.now in
    let s = c.loop-s.s in
    let at : c.records_at-records.result + 4 * s ≡ records_at_of b + 4 * s = omega (arith, c.records_at-records.ensures) in
    let r : c.record_at-record.result ≡ record_at_of b (records_at_of b + 4 * s) = c.record_at-record.ensures ∙ ap (record_at_of b) at in
    (record_default b s c.record_at-record.result r, ap (λ (x : Record). x.count) r)

-- The entries of the state stand in the image.
inside : (c : In-loop-s)
    → let b = c.args.image.now in
    let l = c.loop-s in
    (l.at + 4 * count b l.s + 12 ≤ length b) × (length b < 600000) × (l.s < 512)
inside c =
    let P = c.requires.0 in
    let l = c.loop-s in
    let (i, j) = row_in P l.s c.loop-s-test.true in
    (omega (arith, l.invariant.at_is, i), j, omega (arith, c.loop-s-test.true, P.few_states))

-- The entries of the first state begin behind the records.
begun : (c : After-records_at-records) → c.records_at-records.result + 4 * c.args.n ≡ entry_at c.args.image.now 0 0
unfolding entry_at
begun c =
    let P = c.requires.0 in
    omega (arith, entries-behind c.args.image.now P.laid, P.states_are, c.records_at-records.ensures)

pub records_at-records-requires : goal.records_at-records-requires
records_at-records-requires c = let P = c.requires.0 in (P.states_are, P.entries_are, omega (arith, P.laid.long, P.states_are, P.entries_are))

pub overflow_mul-at : goal.overflow_mul-at
overflow_mul-at c = let z = sized (goal.at.overflow_mul-at c).After-records_at-records in omega arith

pub overflow_add-at : goal.overflow_add-at
overflow_add-at c = let z = sized (goal.at.overflow_add-at c).After-records_at-records in omega arith

pub loop-s-init : goal.loop-s-init
loop-s-init c =
    let P = c.requires.0 in
    let first : c.records_at-records.result + 4 * c.args.n ≡ entry_at c.args.image.now 0 0 = begun (goal.at.loop-s-init c).After-records_at-records in
    opening_start P (c.records_at-records.result + 4 * c.args.n) _ _ _ _ first c.requires.1 c.requires.2 c.requires.3 c.requires.4

pub overflow_mul-s : goal.overflow_mul-s
overflow_mul-s c = let z = sized (goal.at.overflow_mul-s c).After-records_at-records in omega (arith, c.loop-s-test.true)

pub overflow_add-records : goal.overflow_add-records
overflow_add-records c = let z = sized (goal.at.overflow_add-records c).After-records_at-records in omega (arith, c.loop-s-test.true)

pub record_at-record-requires : goal.record_at-record-requires
record_at-record-requires c = let z = sized (goal.at.record_at-record-requires c).After-records_at-records in omega (arith, c.loop-s-test.true)

pub offset_bounds-up-s : goal.offset_bounds-up-s
offset_bounds-up-s c = omega (arith, inside (goal.at.offset_bounds-up-s c).In-loop-s)

pub bounds-up-s : goal.bounds-up-s
bounds-up-s c = omega (arith, inside (goal.at.bounds-up-s c).In-loop-s)

pub overflow_cast-place : goal.overflow_cast-place
overflow_cast-place c = omega (arith, inside (goal.at.overflow_cast-place c).In-loop-s)

pub offset_bounds-place-s : goal.offset_bounds-place-s
offset_bounds-place-s c = omega (arith, inside (goal.at.offset_bounds-place-s c).In-loop-s)

pub bounds-place-s : goal.bounds-place-s
bounds-place-s c = omega (arith, inside (goal.at.bounds-place-s c).In-loop-s)

pub offset_bounds-left-s : goal.offset_bounds-left-s
offset_bounds-left-s c = omega (arith, inside (goal.at.offset_bounds-left-s c).In-loop-s)

pub bounds-left-s : goal.bounds-left-s
bounds-left-s c = omega (arith, inside (goal.at.bounds-left-s c).In-loop-s)

pub overflow_cast-at : goal.overflow_cast-at
overflow_cast-at c = omega (arith, inside (goal.at.overflow_cast-at c).In-loop-s)

pub head_class-requires : goal.head_class-requires
head_class-requires c = λ some. omega (arith, some, (record_is (goal.at.head_class-requires c).After-record_at-record).1, (inside (goal.at.head_class-requires c).In-loop-s).0)

pub offset_bounds-wait-s : goal.offset_bounds-wait-s
offset_bounds-wait-s c = omega (arith, (inside (goal.at.offset_bounds-wait-s c).In-loop-s).2)

pub bounds-wait-s : goal.bounds-wait-s
bounds-wait-s c = omega (arith, (inside (goal.at.bounds-wait-s c).In-loop-s).2)

pub overflow_cast-at-in-loop-s : goal.overflow_cast-at-in-loop-s
overflow_cast-at-in-loop-s c = omega (arith, (record_is (goal.at.overflow_cast-at-in-loop-s c).After-record_at-record).1, inside (goal.at.overflow_cast-at-in-loop-s c).In-loop-s)

pub overflow_mul-at-in-loop-s : goal.overflow_mul-at-in-loop-s
overflow_mul-at-in-loop-s c = omega (arith, (record_is (goal.at.overflow_mul-at-in-loop-s c).After-record_at-record).1, inside (goal.at.overflow_mul-at-in-loop-s c).In-loop-s)

pub overflow_add-at-in-loop-s : goal.overflow_add-at-in-loop-s
overflow_add-at-in-loop-s c = omega (arith, (record_is (goal.at.overflow_add-at-in-loop-s c).After-record_at-record).1, inside (goal.at.overflow_add-at-in-loop-s c).In-loop-s)

pub overflow_step-s : goal.overflow_step-s
overflow_step-s c = omega (arith, (inside (goal.at.overflow_step-s c).In-loop-s).2)

pub loop-s-preserved : goal.loop-s-preserved
loop-s-preserved c =
    let P = c.requires.0 in
    let (falls, many) = record_is (goal.at.loop-s-preserved c).After-record_at-record in
    opening_more P c.loop-s.invariant c.loop-s-test.true c.unwrap_or.result c.record_at-record.result.count c.head_class.result
    (c.unwrap_or.ensures ∙ row_above_lem c.record_at-record.result.fallback ∙ ap row_of (sym falls)) many c.head_class.ensures (search rules)

pub returns : goal.returns
returns c = opening_done c.requires.0 c.loop-s.invariant c.loop-s-test.false
