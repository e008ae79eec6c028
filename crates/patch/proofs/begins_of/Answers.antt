use mathlib.Core.Path.{◌≡◌, refl}
use Prim.Native.Nat.{◌+◌, ◌*◌, ◌<◌, ◌^◌}
use native.Mathlib.Omega.{arith}
use lib.ListN.{length, set}
use Rattle.paper.specs.Patch.{entry_at}
use Rattle.image.proofs.Places.{Begun}
use Rattle.patch.proofs.Begins.{begun-start, begun_more, begun_done}
use Rattle.patch.proofs.begins_of.Goals as goal
use Rattle.patch.proofs.begins_of.Goals.{After-get16, After-records_at-records}

-- Records, entries and trailer fit in the patch, and all numbers are small.
sized : (c : After-records_at-records)
    → let a = c.args in
    (c.records_at-records.result + 4 * a.p + 4 * a.q + 12 ≡ length a.x.now) × (length a.x.now < 2 ^ 32) × (a.p < 65)
sized c = let S = c.requires.shaped in (c.records_at-records.ensures.1, S.small, omega (arith, S.few))

-- What holds after a turn.
turned : (c : After-get16)
    → let t = c.args in
    Begun (λ i. entry_at t.x.now i 0) 65 (length t.x.now) t.p (c.loop-i.at + 4 * c.get16.result) (set c.loop-i.begins c.loop-i.i c.loop-i.at) (c.loop-i.i + 1)
turned c =
    begun_more c.requires c.loop-i.invariant c.loop-i-test.true _ c.records_at-records.result c.records_at-records.ensures.0 c.get16.ensures

pub records_at-records-requires : goal.records_at-records-requires
records_at-records-requires c = c.requires.shaped

pub overflow_mul-at : goal.overflow_mul-at
overflow_mul-at c = omega (arith, sized (goal.at.overflow_mul-at c).After-records_at-records)

pub overflow_add-at : goal.overflow_add-at
overflow_add-at c = omega (arith, sized (goal.at.overflow_add-at c).After-records_at-records)

pub loop-i-init : goal.loop-i-init
loop-i-init c = begun-start c.requires c.records_at-records.result _ c.records_at-records.ensures.0 refl

pub overflow_cast-begins : goal.overflow_cast-begins
overflow_cast-begins c = let z = sized (goal.at.overflow_cast-begins c).After-records_at-records in omega (arith, z, c.loop-i.invariant.at_in, c.loop-i.invariant.within)

pub offset_bounds-begins-i : goal.offset_bounds-begins-i
offset_bounds-begins-i c = let z = sized (goal.at.offset_bounds-begins-i c).After-records_at-records in omega (arith, z, c.loop-i.invariant.at_in, c.loop-i.invariant.within)

pub bounds-begins-i : goal.bounds-begins-i
bounds-begins-i c = let z = sized (goal.at.bounds-begins-i c).After-records_at-records in omega (arith, z, c.loop-i.invariant.at_in, c.loop-i.invariant.within)

pub overflow_mul-i : goal.overflow_mul-i
overflow_mul-i c = let z = sized (goal.at.overflow_mul-i c).After-records_at-records in omega (arith, z, c.loop-i.invariant.at_in, c.loop-i.invariant.within)

pub overflow_add-records : goal.overflow_add-records
overflow_add-records c = let z = sized (goal.at.overflow_add-records c).After-records_at-records in omega (arith, z, c.loop-i.invariant.at_in, c.loop-i.invariant.within)

pub overflow_add-records-in-loop-i : goal.overflow_add-records-in-loop-i
overflow_add-records-in-loop-i c = let z = sized (goal.at.overflow_add-records-in-loop-i c).After-records_at-records in omega (arith, z, c.loop-i.invariant.at_in, c.loop-i.invariant.within)

pub get16-requires : goal.get16-requires
get16-requires c = let z = sized (goal.at.get16-requires c).After-records_at-records in omega (arith, z, c.loop-i.invariant.at_in, c.loop-i.invariant.within)

pub overflow_mul-at-in-loop-i : goal.overflow_mul-at-in-loop-i
overflow_mul-at-in-loop-i c = omega (arith, sized (goal.at.overflow_mul-at-in-loop-i c).After-records_at-records, (turned (goal.at.overflow_mul-at-in-loop-i c).After-get16).at_in)

pub overflow_add-at-in-loop-i : goal.overflow_add-at-in-loop-i
overflow_add-at-in-loop-i c = omega (arith, sized (goal.at.overflow_add-at-in-loop-i c).After-records_at-records, (turned (goal.at.overflow_add-at-in-loop-i c).After-get16).at_in)

pub loop-i-preserved : goal.loop-i-preserved
loop-i-preserved c = turned (goal.at.loop-i-preserved c).After-get16

pub overflow_cast-begins-2 : goal.overflow_cast-begins-2
overflow_cast-begins-2 c = let z = sized (goal.at.overflow_cast-begins-2 c).After-records_at-records in omega (arith, z, c.loop-i.invariant.at_in, c.loop-i.invariant.within)

pub offset_bounds-begins-p : goal.offset_bounds-begins-p
offset_bounds-begins-p c = let z = sized (goal.at.offset_bounds-begins-p c).After-records_at-records in omega (arith, z, c.loop-i.invariant.at_in, c.loop-i.invariant.within)

pub bounds-begins-p : goal.bounds-begins-p
bounds-begins-p c = let z = sized (goal.at.bounds-begins-p c).After-records_at-records in omega (arith, z, c.loop-i.invariant.at_in, c.loop-i.invariant.within)

pub returns : goal.returns
returns c = begun_done c.requires c.loop-i.invariant c.loop-i-test.false
