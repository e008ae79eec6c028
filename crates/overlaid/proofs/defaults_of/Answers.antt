use mathlib.Core.Path.{◌≡◌, ap, ◌∙◌}
use Prim.Native.Nat.{ℕ, ◌+◌, ◌*◌, ◌≤◌, ◌<◌, ◌^◌}
use native.Mathlib.Omega.{arith}
use lib.ListN.{length}
use Rattle.paper.specs.Words.{number16}
use Rattle.patch.proofs.Over.{over_start, over_more}
use Rattle.overlaid.proofs.Laid.{image_passed, few_states, listed-room}
use Rattle.overlaid.proofs.Defaults.{own_default, over_falls}
use Rattle.overlaid.proofs.defaults_of.Goals as goal
use Rattle.overlaid.proofs.defaults_of.Goals.{After-records_at-records, After-state_at-s}

-- Listed states and records fit in the patch.
sized : (c : After-records_at-records)
    → let a = c.args in
    (c.records_at-records.result + 4 * a.p + 4 * a.q + 12 ≡ length a.x.now) × (10 + 2 * a.p ≤ length a.x.now) × (length a.x.now < 2 ^ 32)
sized c = let S = c.requires.counts.shaped in (c.records_at-records.ensures.1, omega (arith, S.long), S.small)

-- The listed state has a place in the list.
room : (c : After-state_at-s) → c.state_at-s.result < 512
room c = omega (arith, c.state_at-s.ensures, listed-room c.requires c.loop-i.i c.loop-i-test.true)

pub defaults_of-def-requires : goal.defaults_of-def-requires
defaults_of-def-requires c = image_passed c.requires

pub records_at-records-requires : goal.records_at-records-requires
records_at-records-requires c = c.requires.counts.shaped

pub loop-i-init : goal.loop-i-init
loop-i-init c = (omega arith, c.defaults_of-def.ensures.0, c.defaults_of-def.ensures.1, over_start _ (own_default _) _)

pub state_at-s-requires : goal.state_at-s-requires
state_at-s-requires c = omega (arith, sized (goal.at.state_at-s-requires c).After-records_at-records, c.loop-i-test.true)

pub overflow_mul-i : goal.overflow_mul-i
overflow_mul-i c = omega (arith, sized (goal.at.overflow_mul-i c).After-records_at-records, c.loop-i-test.true)

pub overflow_add-records : goal.overflow_add-records
overflow_add-records c = omega (arith, sized (goal.at.overflow_add-records c).After-records_at-records, c.loop-i-test.true)

pub get16-requires : goal.get16-requires
get16-requires c = omega (arith, sized (goal.at.get16-requires c).After-records_at-records, c.loop-i-test.true)

pub offset_bounds-def-s : goal.offset_bounds-def-s
offset_bounds-def-s c = omega (arith, room (goal.at.offset_bounds-def-s c).After-state_at-s)

pub bounds-def-s : goal.bounds-def-s
bounds-def-s c = omega (arith, room (goal.at.bounds-def-s c).After-state_at-s)

pub overflow_step-i : goal.overflow_step-i
overflow_step-i c = omega (arith, c.loop-i-test.true, sized (goal.at.overflow_step-i c).After-records_at-records)

pub loop-i-smaller : goal.loop-i-smaller
loop-i-smaller c = omega (arith, c.loop-i-test.true)

pub loop-i-preserved : goal.loop-i-preserved
loop-i-preserved c =
    let l = c.loop-i in
    let (h, F, long, over) = l.invariant in (
      omega (arith, c.loop-i-test.true),
      F,
      long,
      over_more c.requires.listed (own_default c.args.x.now) over c.loop-i-test.true (omega (arith, long, few_states c.requires)) _ _ c.state_at-s.ensures
          (c.get16.ensures ∙ ap (λ (y : ℕ). number16 c.args.x.now (y + 4 * l.i)) c.records_at-records.ensures.0),
    )

pub returns : goal.returns
returns c =
    let l = c.loop-i in
    let (h, F, long, over) = l.invariant in
    over_falls c.args.image.now F over (omega (arith, h, c.loop-i-test.false, c.requires.counts.shaped.listed_are))
