use mathlib.Core.Path.{◌≡◌, refl, ap, ◌∙◌}
use Prim.Native.Nat.{ℕ, ◌+◌, ◌*◌, ◌<◌, ◌^◌}
use native.Mathlib.Numerals.{add-one}
use native.Mathlib.Omega.{arith}
use lib.ListN.{length}
use borrow.Author.Rules.{rules}
use Rattle.paper.specs.Below.{sum}
use Rattle.paper.specs.Patch.{count}
use Rattle.patch.proofs.in_records.counts_sum.Goals as goal
use Rattle.patch.proofs.in_records.counts_sum.Goals.{After-get16, After-records_at-records}

-- The records fit in the patch.
sized : (c : After-records_at-records)
    → let a = c.args in
    (c.records_at-records.result + 4 * a.p + 4 * a.q + 12 ≡ length a.x.now) × (length a.x.now < 2 ^ 32) × (a.p < 65)
sized c = (c.records_at-records.ensures.1, c.requires.small, omega (arith, c.requires.few))

-- A count more is added.
summed : (c : After-get16)
    → c.loop-i.total + c.get16.result ≡ sum (c.loop-i.i + 1) (count c.args.x.now)
unfolding count
summed c = rw (add-one c.loop-i.i, ← c.records_at-records.ensures.0, ← c.get16.ensures, ← c.loop-i.invariant.0) refl

pub records_at-records-requires : goal.records_at-records-requires
records_at-records-requires c = c.requires

pub loop-i-init : goal.loop-i-init
loop-i-init c = (refl, omega arith)

pub overflow_mul-i : goal.overflow_mul-i
overflow_mul-i c = omega (arith, sized (goal.at.overflow_mul-i c).After-records_at-records, c.loop-i-test.true)

pub overflow_add-records : goal.overflow_add-records
overflow_add-records c = omega (arith, sized (goal.at.overflow_add-records c).After-records_at-records, c.loop-i-test.true)

pub overflow_add-records-in-loop-i : goal.overflow_add-records-in-loop-i
overflow_add-records-in-loop-i c = omega (arith, sized (goal.at.overflow_add-records-in-loop-i c).After-records_at-records, c.loop-i-test.true)

pub get16-requires : goal.get16-requires
get16-requires c = omega (arith, sized (goal.at.get16-requires c).After-records_at-records, c.loop-i-test.true)

pub loop-i-preserved : goal.loop-i-preserved
loop-i-preserved c = (summed (goal.at.loop-i-preserved c).After-get16, search rules)

pub returns : goal.returns
returns c =
    let a = c.args in
    let all : c.loop-i.i ≡ a.p = omega arith in
    c.loop-i.invariant.0 ∙ ap (λ (i : ℕ). sum i (count a.x.now)) all
