use Rattle.std.proofs.Common.{◌≡◌, refl, arith}
use Rattle.paper.proofs.Filled.{fills_none, fills_more}
use Rattle.sweep.proofs.Defaults.{number_read, filled-falls}
use Rattle.sweep.proofs.defaults_of.Goals as goal

pub loop-s-init : goal.loop-s-init
loop-s-init c = fills_none refl

pub loop-s-preserved : goal.loop-s-preserved
loop-s-preserved c =
    let l = c.loop-s in
    fills_more l.invariant (omega (arith, c.requires.few_states)) (number_read c.requires l.s _ c.get16.ensures)

pub returns : goal.returns
returns c =
    let l = c.loop-s in
    let e : l.s ≡ c.args.n = omega arith in
    (filled-falls c.requires l.def (rw e at l.invariant.filled), l.invariant.long)
