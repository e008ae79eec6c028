use mathlib.Core.Path.{refl}
use Prim.Native.Nat.{◌+◌, ◌*◌}
use native.Mathlib.Omega.{arith}
use lib.ListN.{length, set}
use Rattle.paper.specs.Image.{entry_at}
use Rattle.image.proofs.Places.{Begun}
use Rattle.image.proofs.Begins.{Sizes, sizes, begun-start, begun_more, begun_done}
use Rattle.image.proofs.begins_of.Goals as goal
use Rattle.image.proofs.begins_of.Goals.{After-get16, After-records_at-records}

-- What is known from the start.
sized : (c : After-records_at-records) → Sizes c.args.image.now c.args.n c.records_at-records.result
sized c = sizes c.args.image.now c.requires.0 c.args.n c.records_at-records.result c.requires.1 c.records_at-records.ensures

-- What holds after a turn.
turned : (c : After-get16)
    → let t = c.args in
    Begun (λ q. entry_at t.image.now q 0) 513 (length t.image.now) t.n (c.loop-s.at + 4 * c.get16.result) (set c.loop-s.begins c.loop-s.s c.loop-s.at) (c.loop-s.s + 1)
turned c =
    begun_more c.args.image.now c.requires.0 c.args.n c.records_at-records.result c.requires.1 c.records_at-records.ensures _ _ _ c.loop-s.invariant c.loop-s-test.true _ c.get16.ensures

pub records_at-records-requires : goal.records_at-records-requires
records_at-records-requires c = (c.requires.1, c.requires.2, omega (arith, c.requires.0.long, c.requires.1, c.requires.2))

pub overflow_mul-at : goal.overflow_mul-at
overflow_mul-at c = let z = sized (goal.at.overflow_mul-at c).After-records_at-records in omega arith

pub overflow_add-at : goal.overflow_add-at
overflow_add-at c = let z = sized (goal.at.overflow_add-at c).After-records_at-records in omega arith

pub loop-s-init : goal.loop-s-init
loop-s-init c = begun-start c.args.image.now c.requires.0 c.args.n c.records_at-records.result c.requires.1 c.records_at-records.ensures _ refl

pub overflow_cast-begins : goal.overflow_cast-begins
overflow_cast-begins c = let z = sized (goal.at.overflow_cast-begins c).After-records_at-records in omega (arith, c.loop-s.invariant.at_in, c.loop-s.invariant.long)

pub offset_bounds-begins-s : goal.offset_bounds-begins-s
offset_bounds-begins-s c = let z = sized (goal.at.offset_bounds-begins-s c).After-records_at-records in omega (arith, c.loop-s.invariant.at_in, c.loop-s.invariant.long)

pub bounds-begins-s : goal.bounds-begins-s
bounds-begins-s c = let z = sized (goal.at.bounds-begins-s c).After-records_at-records in omega (arith, c.loop-s.invariant.at_in, c.loop-s.invariant.long)

pub overflow_mul-s : goal.overflow_mul-s
overflow_mul-s c = let z = sized (goal.at.overflow_mul-s c).After-records_at-records in omega (arith, c.loop-s.invariant.at_in, c.loop-s.invariant.long)

pub overflow_add-records : goal.overflow_add-records
overflow_add-records c = let z = sized (goal.at.overflow_add-records c).After-records_at-records in omega (arith, c.loop-s.invariant.at_in, c.loop-s.invariant.long)

pub overflow_add-records-in-loop-s : goal.overflow_add-records-in-loop-s
overflow_add-records-in-loop-s c = let z = sized (goal.at.overflow_add-records-in-loop-s c).After-records_at-records in omega (arith, c.loop-s.invariant.at_in, c.loop-s.invariant.long)

pub get16-requires : goal.get16-requires
get16-requires c = let z = sized (goal.at.get16-requires c).After-records_at-records in omega (arith, c.loop-s.invariant.at_in, c.loop-s.invariant.long)

pub overflow_mul-at-in-loop-s : goal.overflow_mul-at-in-loop-s
overflow_mul-at-in-loop-s c = let z = sized (goal.at.overflow_mul-at-in-loop-s c).After-records_at-records in omega (arith, (turned (goal.at.overflow_mul-at-in-loop-s c).After-get16).at_in)

pub overflow_add-at-in-loop-s : goal.overflow_add-at-in-loop-s
overflow_add-at-in-loop-s c = let z = sized (goal.at.overflow_add-at-in-loop-s c).After-records_at-records in omega (arith, (turned (goal.at.overflow_add-at-in-loop-s c).After-get16).at_in)

pub loop-s-preserved : goal.loop-s-preserved
loop-s-preserved c = turned (goal.at.loop-s-preserved c).After-get16

pub overflow_cast-begins-2 : goal.overflow_cast-begins-2
overflow_cast-begins-2 c = let z = sized (goal.at.overflow_cast-begins-2 c).After-records_at-records in omega (arith, c.loop-s.invariant.at_in, c.loop-s.invariant.long)

pub offset_bounds-begins-n : goal.offset_bounds-begins-n
offset_bounds-begins-n c = let z = sized (goal.at.offset_bounds-begins-n c).After-records_at-records in omega (arith, c.loop-s.invariant.at_in, c.loop-s.invariant.long)

pub bounds-begins-n : goal.bounds-begins-n
bounds-begins-n c = let z = sized (goal.at.bounds-begins-n c).After-records_at-records in omega (arith, c.loop-s.invariant.at_in, c.loop-s.invariant.long)

pub returns : goal.returns
returns c =
    begun_done c.args.image.now c.requires.0 c.args.n c.records_at-records.result c.requires.1 c.records_at-records.ensures _ _ _ c.loop-s.invariant c.loop-s-test.false
