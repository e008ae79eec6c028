use mathlib.Core.Path.{◌≡◌, refl, ap, ◌∙◌}
use Prim.Native.Nat.{ℕ}
use native.Mathlib.Omega.{arith}
use Rattle.paper.specs.Below.{sum}
use Rattle.paper.specs.Image.{count}
use Rattle.contents.proofs.Records.{sum_more}
use Rattle.contents.proofs.in_records.counts_sum.Goals as goal

pub loop-s-init : goal.loop-s-init
loop-s-init c = (refl, omega arith)

pub loop-s-preserved : goal.loop-s-preserved
loop-s-preserved c =
    (sum_more c.args.b.now c.args.n c.args.records c.requires c.loop-s.s _ _ c.loop-s.invariant.0 c.get16.ensures, omega arith)

pub returns : goal.returns
returns c =
    let all : c.loop-s.s ≡ c.args.n = omega arith in
    c.loop-s.invariant.0 ∙ ap (λ (s : ℕ). sum s (count c.args.b.now)) (all ∙ c.requires.states_are)
