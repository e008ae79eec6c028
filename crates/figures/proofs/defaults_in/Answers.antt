use mathlib.Core.Path.{◌≡◌, refl}
use Prim.Native.Nat.{◌≤◌, ◌<◌}
use native.Mathlib.Omega.{arith}
use Rattle.paper.specs.Below.{given}
use Rattle.paper.specs.Image.{states}
use Rattle.paper.proofs.Counts.{bit_le}
use Rattle.image.specs.Forms.{default_of}
use Rattle.figures.proofs.Named.{named_more}
use Rattle.figures.proofs.defaults_in.Goals as goal
use Rattle.figures.proofs.defaults_in.Goals.{After-falls-count, In-loop-s}

-- A state of the loop is one of the image.
inside : (c : In-loop-s) → c.loop-s.s < states c.args.image.now
inside c = omega (arith, c.loop-s-test.true, c.requires.1)

-- The state counts one at most.
one_more : (c : After-falls-count) → c.falls-count.result ≤ 1
one_more c = omega (arith, c.falls-count.ensures, bit_le (given (default_of c.record_from.result.fallback)))

pub loop-s-init : goal.loop-s-init
loop-s-init c = (omega arith, refl, omega arith)

pub record_from-requires : goal.record_from-requires
record_from-requires c = (c.requires.0, inside (goal.at.record_from-requires c).In-loop-s)

pub overflow_add-count : goal.overflow_add-count
overflow_add-count c = omega (arith, one_more (goal.at.overflow_add-count c).After-falls-count, c.loop-s.invariant.2, inside (goal.at.overflow_add-count c).In-loop-s, c.requires.0.few_states)

pub overflow_step-s : goal.overflow_step-s
overflow_step-s c = omega (arith, inside (goal.at.overflow_step-s c).In-loop-s, c.requires.0.few_states)

pub loop-s-smaller : goal.loop-s-smaller
loop-s-smaller c = omega (arith, c.loop-s-test.true)

pub loop-s-preserved : goal.loop-s-preserved
loop-s-preserved c =
    named_more c.args.image.now c.loop-s.s c.loop-s.count c.falls-count.result c.record_from.result c.loop-s.invariant (inside (goal.at.loop-s-preserved c).In-loop-s) c.record_from.ensures c.falls-count.ensures

pub returns : goal.returns
returns c =
    let e : c.loop-s.s ≡ states c.args.image.now = omega (arith, c.loop-s-test.false, c.loop-s.invariant.0, c.requires.1) in
    rw e at c.loop-s.invariant.1
