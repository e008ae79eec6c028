use mathlib.Core.Path.{◌≡◌, refl, sym, ◌∙◌}
use mathlib.Core.Bool.{false}
use native.Mathlib.Omega.{arith}
use Rattle.paper.proofs.Below.{any_more, any_found}
use Rattle.patch.proofs.states_bad.Invariants.{wrong}
use Rattle.patch.proofs.states_bad.Goals as goal

pub loop-i-init : goal.loop-i-init
loop-i-init c = refl

pub state_bad-requires : goal.state_bad-requires
state_bad-requires c = let S = c.requires in omega (arith, S.long, c.loop-i-test.true)

pub returns-then-state_bad : goal.returns-then-state_bad
returns-then-state_bad c =
    let t = c.args in
    sym (any_found t.p c.loop-i.i (wrong t.x.now t.n) c.loop-i-test.true (sym c.state_bad.ensures ∙ c.if-state_bad.true))

pub loop-i-preserved : goal.loop-i-preserved
loop-i-preserved c =
    let t = c.args in
    any_more c.loop-i.i (wrong t.x.now t.n) c.loop-i.invariant (sym c.state_bad.ensures ∙ c.if-state_bad.false)

pub returns : goal.returns
returns c =
    let all : c.loop-i.i ≡ c.args.p = omega (arith, c.loop-i-test.false) in
    sym (rw all at c.loop-i.invariant)
