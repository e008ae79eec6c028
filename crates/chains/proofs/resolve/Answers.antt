use mathlib.Core.Path.{◌≡◌, ◌∙◌}
use Rattle.std.proofs.Common.{get_or, refl, arith}
use lib.ListN.{length-set}
use Rattle.chains.proofs.Sweeps.{served_fits, served_more, served_all}
use Rattle.chains.proofs.resolve.Goals as goal

pub loop-i-init : goal.loop-i-init
loop-i-init c = (omega arith, c.requires.3, c.requires.4, λ j h. absurd (omega arith))

pub found_at-f-requires : goal.found_at-f-requires
found_at-f-requires c =
    let l = c.loop-i in
    let h = c.requires.1.below l.i (omega arith) in
    (omega (arith, h), λ e. served_fits c.requires.1 l.to l.hop l.i _ (omega arith) refl h l.invariant.3 c.requires.0 c.requires.2 e)

pub loop-i-preserved : goal.loop-i-preserved
loop-i-preserved c =
    let l = c.loop-i in
    let s = get_or c.args.order.now l.i 0 in
    let h = c.requires.1.below l.i (omega arith) in (
      omega arith,
      length-set l.to s c.found_at-f.result.target ∙ l.invariant.1,
      length-set l.hop s c.found_at-f.result.hops ∙ l.invariant.2,
      served_more c.requires.1 l.to l.hop l.i s (omega arith) refl h l.invariant.3 c.found_at-f.result.target c.found_at-f.result.hops
          (omega (arith, h, c.requires.0, l.invariant.1)) (omega (arith, h, c.requires.0, l.invariant.2)) c.found_at-f.ensures,
    )

pub returns : goal.returns
returns c =
    let l = c.loop-i in
    let a = c.args in
    let e : l.i ≡ a.n = omega arith in
    served_all a.order.now l.to l.hop c.requires.1 l.invariant.1 l.invariant.2 (rw e at l.invariant.3)
