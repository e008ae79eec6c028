use Rattle.std.proofs.Common.{◌≡◌, refl, arith}
use Rattle.words.proofs.Laid.{laid_none, laid_room, laid_more}
use Rattle.build.proofs.parts.put_entries.Goals as goal

pub loop-s-init : goal.loop-s-init
loop-s-init g c = laid_none _ _ _ _ refl

pub put_row-here-requires : goal.put_row-here-requires
put_row-here-requires g c = (omega (arith, c.requires.0, c.loop-s-test.true), laid_room c.loop-s.invariant c.args.n c.loop-s-test.true c.requires.1)

pub loop-s-preserved : goal.loop-s-preserved
loop-s-preserved g c = laid_more c.loop-s.invariant c.args.n c.loop-s-test.true c.requires.1 _ _ c.put_row-here.ensures.0 c.put_row-here.ensures.1

pub returns : goal.returns
returns g c =
    let l = c.loop-s in
    let e : l.s ≡ c.args.n = omega arith in
    (rw e at l.invariant.ends, rw e at l.invariant.laid)
