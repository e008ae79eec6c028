use Prim.Native.Nat.{ℕ, ◌<◌}
use mathlib.Core.Path.{◌≡◌, sym}
use mathlib.Core.Bool.{true≢false}
use native.Mathlib.Omega.{arith}
use Rattle.chains.specs.Orders.{defaults_view}
use Rattle.chains.specs.Places.{Unplaced}
use Rattle.chains.proofs.Defaults.{range_inside}
use Rattle.chains.proofs.Places.{laid_none, laid_order}
use Rattle.chains.proofs.Endless.{endless-found, placed_more, placed-endless}
use Rattle.chains.proofs.setting.set_out.Goals as goal

pub loop-s-init : goal.loop-s-init
loop-s-init c = (omega arith, omega arith, laid_none _ _ c.requires.0 c.requires.2, λ q h. absurd (omega arith))

pub climb-requires : goal.climb-requires
climb-requires c = (omega arith, omega arith, c.requires.1)

pub returns-in-None : goal.returns-in-None
returns-in-None c =
    let l = c.loop-s in
    (sym (endless-found (defaults_view c.args.n c.args.def.now) l.s (omega arith) c.in-None.ensures), λ e. absurd (true≢false e))

pub set_down-requires : goal.set_down-requires
set_down-requires c =
    let l = c.loop-s in
    record {
      few = c.requires.0;
      range = c.requires.1;
      laid = l.invariant.2;
      below = omega arith;
      climbed = c.in-Some.ensures.1;
    }

pub loop-s-preserved : goal.loop-s-preserved
loop-s-preserved c =
    let l = c.loop-s in
    (omega arith, c.set_down.ensures.room, c.set_down.ensures.laid, placed_more c.set_down.ensures l.invariant.3)

pub returns : goal.returns
returns c =
    let l = c.loop-s in
    let n = c.args.n in
    let def = c.args.def.now in
    let e : l.s ≡ n = omega arith in
    let all : (q : ℕ) → q < n → ¬ Unplaced l.place q = rw e at l.invariant.3 in
    let inside = range_inside n def c.requires.1 in
    (sym (placed-endless l.invariant.2 c.requires.0 inside all), λ _. laid_order n def l.invariant.2 c.requires.0 inside all)
