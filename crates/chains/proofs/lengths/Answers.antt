use Rattle.std.proofs.Common.{◌≡◌, ℕ, get_or, refl, ◌∙◌, arith, length-set}
use lib.ListN.{length-replicate}
use Rattle.chains.specs.Orders.{ChainLength}
use Rattle.chains.proofs.Done.{done_default, done_all}
use Rattle.chains.proofs.Depth.{length_more}
use Rattle.chains.proofs.lengths.Goals as goal

pub loop-i-init : goal.loop-i-init
loop-i-init c = (length-replicate {A = ℕ} 512 0, λ j h. absurd (omega arith))

pub length_at-l-requires : goal.length_at-l-requires
length_at-l-requires c =
    let l = c.loop-i in
    let a = c.args in (
      c.requires.0,
      c.requires.2.below l.i (omega arith),
      c.requires.1,
      λ d e. done_default (ChainLength a.n a.def.now) a.order.now a.n a.def.now (λ q. get_or l.len q 0) l.i _ d c.requires.2 (omega arith) refl e l.invariant.1,
    )

pub loop-i-preserved : goal.loop-i-preserved
loop-i-preserved c =
    let l = c.loop-i in
    let a = c.args in
    let s = get_or a.order.now l.i 0 in (
      length-set l.len s c.length_at-l.result ∙ l.invariant.0,
      length_more a.n a.def.now a.order.now l.len l.i s _ refl (omega (arith, l.invariant.0, c.requires.0, c.requires.2.below l.i (omega arith)))
          c.length_at-l.ensures l.invariant.1,
    )

pub returns : goal.returns
returns c =
    let l = c.loop-i in
    let a = c.args in
    let e : l.i ≡ a.n = omega arith in
    done_all (ChainLength a.n a.def.now) a.order.now a.n a.def.now (λ q. get_or l.len q 0) c.requires.2 (rw e at l.invariant.1)
