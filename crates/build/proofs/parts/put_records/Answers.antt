use mathlib.Core.Path.{◌≡◌}
use native.Mathlib.Omega.{arith}
use Rattle.words.proofs.Laid.{laid_none, laid_more}
use Rattle.build.proofs.Pieces.{length_records, length_record}
use Rattle.build.proofs.parts.put_records.Goals as goal

pub loop-s-init : goal.loop-s-init
loop-s-init c = (omega arith, laid_none _ _ _ _ (omega arith))

pub offset_bounds-def-s : goal.offset_bounds-def-s
offset_bounds-def-s c = omega (arith, c.requires.0)

pub bounds-def-s : goal.bounds-def-s
bounds-def-s c = omega (arith, c.requires.0)

pub offset_bounds-counts-s : goal.offset_bounds-counts-s
offset_bounds-counts-s c = omega (arith, c.requires.0)

pub bounds-counts-s : goal.bounds-counts-s
bounds-counts-s c = omega (arith, c.requires.0)

pub overflow_mul-s : goal.overflow_mul-s
overflow_mul-s c = omega (arith, c.requires.0)

pub overflow_add-at : goal.overflow_add-at
overflow_add-at c = omega (arith, c.requires.1)

pub put_pair-requires : goal.put_pair-requires
put_pair-requires c =
    omega (arith, c.requires.1, c.loop-s.invariant.1.as_long)

pub overflow_step-s : goal.overflow_step-s
overflow_step-s c = omega (arith, c.requires.0)

pub loop-s-preserved : goal.loop-s-preserved
loop-s-preserved c =
    let a = c.args in
    let e = length_record a.def.now a.counts.now c.loop-s.s in
    (omega arith, laid_more c.loop-s.invariant.1 a.n (omega arith) (omega (arith, c.requires.1, length_records a.def.now a.counts.now a.n)) _ _ (omega arith) c.put_pair.ensures)

pub shape_of-room : goal.shape_of-room
shape_of-room c = c.loop-s.invariant.1.as_long

pub returns : goal.returns
returns c =
    let e : c.loop-s.s ≡ c.args.n = omega arith in
    rw e at c.loop-s.invariant.1.laid
