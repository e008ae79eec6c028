use mathlib.Core.Path.{refl}
use Prim.Native.Nat.{ℕ, ◌+◌, ◌<◌}
use native.Mathlib.Omega.{arith}
use lib.ListN.{length-replicate, get_or-replicate}
use Rattle.patch.proofs.Over.{over_start, over_more}
use Rattle.patch.proofs.Slots.{slots_done}
use Rattle.patch.proofs.slots_of.Goals as goal
use Rattle.patch.proofs.slots_of.Goals.{After-state_at-s}

-- The listed state has a place in the list of slots.
here : (c : After-state_at-s) → c.state_at-s.result < 512
here c = omega (arith, c.state_at-s.ensures, c.requires.1.below c.loop-i.i c.loop-i-test.true, c.requires.2)

pub loop-i-init : goal.loop-i-init
loop-i-init c = over_start _ (λ i. i + 1) _

pub state_at-s-requires : goal.state_at-s-requires
state_at-s-requires c = omega (arith, c.requires.0.long, c.loop-i-test.true)

pub bounds-slots-s : goal.bounds-slots-s
bounds-slots-s c = omega (arith, here (goal.at.bounds-slots-s c).After-state_at-s)

pub loop-i-preserved : goal.loop-i-preserved
loop-i-preserved c =
    let l = c.loop-i in
    over_more c.requires.1 (λ i. i + 1) l.invariant c.loop-i-test.true (omega (arith, c.requires.2, length-replicate {A = ℕ} 512 0)) _ _ c.state_at-s.ensures refl

pub returns : goal.returns
returns c =
    slots_done c.loop-i.invariant (omega (arith, c.loop-i-test.false, c.requires.0.listed_are)) (λ s h. get_or-replicate 512 s 0 0 (omega (arith, c.requires.2)))
