use mathlib.Core.Path.{◌≡◌, refl, sym, ap, ◌∙◌}
use mathlib.Core.Bool.{false}
use Prim.Native.Nat.{ℕ, ◌+◌, ◌*◌, ◌<◌, ◌^◌}
use native.Mathlib.Omega.{arith}
use lib.ListN.{length}
use Rattle.paper.proofs.Below.{any_more, any_found}
use Rattle.image.specs.Forms.{record_at_of}
use Rattle.image.specs.declared.Record.{Record}
use Rattle.contents.specs.Tests.{record_wrong}
use Rattle.patch.proofs.in_records.some_record_bad.Invariants.{wrong}
use Rattle.patch.proofs.in_records.some_record_bad.Goals as goal
use Rattle.patch.proofs.in_records.some_record_bad.Goals.{After-record_bad, After-records_at-records}

-- The records fit in the patch.
sized : (c : After-records_at-records)
    → let a = c.args in
    (c.records_at-records.result + 4 * a.p + 4 * a.q + 12 ≡ length a.x.now) × (length a.x.now < 2 ^ 32)
sized c = (c.records_at-records.ensures.1, c.requires.small)

-- What was answered of the record read is whether the listed state's record is wrong.
answered : (c : After-record_bad)
    → let a = c.args in
    c.record_bad.result ≡ wrong a.x.now a.n a.k c.loop-i.i
answered c =
    let a = c.args in
    c.record_bad.ensures
    ∙ ap (λ (y : Record). record_wrong a.n a.k y) (c.record_at.ensures ∙ ap (λ (y : ℕ). record_at_of a.x.now (y + 4 * c.loop-i.i)) c.records_at-records.ensures.0)

pub records_at-records-requires : goal.records_at-records-requires
records_at-records-requires c = c.requires

pub loop-i-init : goal.loop-i-init
loop-i-init c = refl

pub overflow_mul-i : goal.overflow_mul-i
overflow_mul-i c = omega (arith, sized (goal.at.overflow_mul-i c).After-records_at-records, c.loop-i-test.true)

pub overflow_add-records : goal.overflow_add-records
overflow_add-records c = omega (arith, sized (goal.at.overflow_add-records c).After-records_at-records, c.loop-i-test.true)

pub record_at-requires : goal.record_at-requires
record_at-requires c = omega (arith, sized (goal.at.record_at-requires c).After-records_at-records, c.loop-i-test.true)

pub returns-then-record_bad : goal.returns-then-record_bad
returns-then-record_bad c =
    let t = c.args in
    sym (any_found t.p c.loop-i.i (wrong t.x.now t.n t.k) c.loop-i-test.true (sym (answered (goal.at.returns-then-record_bad c).After-record_bad) ∙ c.if-record_bad.true))

pub loop-i-preserved : goal.loop-i-preserved
loop-i-preserved c =
    let t = c.args in
    any_more c.loop-i.i (wrong t.x.now t.n t.k) c.loop-i.invariant (sym (answered (goal.at.loop-i-preserved c).After-record_bad) ∙ c.if-record_bad.false)

pub returns : goal.returns
returns c =
    let all : c.loop-i.i ≡ c.args.p = omega (arith, c.loop-i-test.false) in
    sym (rw all at c.loop-i.invariant)
