use mathlib.Core.Path.{◌≡◌, refl, ap, ◌∙◌}
use Prim.Native.Nat.{ℕ, ◌+◌, ◌*◌, ◌≤◌}
use native.Mathlib.Omega.{arith}
use lib.ListN.{length}
use Rattle.paper.specs.Below.{sum}
use Rattle.paper.specs.Words.{number16}
use Rattle.paper.specs.Image as image
use Rattle.paper.specs.Patch.{listed_states, patched_view}
use Rattle.paper.proofs.Sums.{sum-before}
use Rattle.facts.proofs.ImageFacts.{image_few_labels}
use Rattle.apply.proofs.Sizes.{sum_more, few}
use Rattle.apply.proofs.Totals.{listed_count, total_is}
use Rattle.apply.proofs.total_of.Goals as goal
use Rattle.apply.proofs.total_of.Goals.{After-get16, After-state_at-s, Start}

-- The entries of both are few.
small : (t : Start) → t.args.m + t.args.q ≤ 147456
small t = omega (arith, t.requires.1, t.requires.2, few t.requires.0.accepted)

-- The listed state is one of the image, whose record stands in it.
record_in_lem : (c : After-state_at-s)
    → let t = c.args in
    (c.state_at-s.result ≤ 512) × (t.records + 4 * c.state_at-s.result + 4 ≤ length t.image.now) × (length t.image.now ≤ 600000)
record_in_lem c =
    let S = c.requires.0 in
    let below = S.accepted.below c.loop-i.i (omega (arith, c.loop-i-test.true, S.listed_are)) in
    let A = S.accepted.accepted in
    let (n, _, m, _) = few S.accepted in
    (omega (arith, below, c.state_at-s.ensures, n), omega (arith, below, c.state_at-s.ensures, S.in_image, A.long), omega (arith, A.long, n, m, image_few_labels _ A))

-- What was read is the count of the listed state in the image.
count_read : (c : After-get16)
    → c.get16.result ≡ listed_count c.args.image.now c.args.x.now c.loop-i.i
unfolding image.count
count_read c =
    c.get16.ensures ∙ ap (λ (at : ℕ). number16 c.args.image.now (at + 4 * c.state_at-s.result + 2)) c.requires.0.in_image
    ∙ ap (λ (s : ℕ). number16 c.args.image.now (image.records_at_of c.args.image.now + 4 * s + 2)) c.state_at-s.ensures

-- It is not more than what is left.
enough : (c : After-get16) → c.get16.result ≤ c.loop-i.total
enough c =
    let S = c.requires.0 in
    let listed = listed_count c.args.image.now c.args.x.now in
    omega (
      arith,
      count_read c,
      c.loop-i.invariant.1,
      c.requires.1,
      c.requires.2,
      total_is c.args.image.now c.args.x.now S.accepted,
      sum-before (listed_states c.args.x.now) c.loop-i.i listed (omega (arith, c.loop-i-test.true, S.listed_are)),
    )

pub overflow_add-total : goal.overflow_add-total
overflow_add-total c = omega (arith, small (goal.at.overflow_add-total c).Start)

pub overflow_cast-total : goal.overflow_cast-total
overflow_cast-total c = omega (arith, small (goal.at.overflow_cast-total c).Start)

pub loop-i-init : goal.loop-i-init
loop-i-init c = (omega arith, omega (arith, small (goal.at.loop-i-init c).Start))

pub state_at-s-requires : goal.state_at-s-requires
state_at-s-requires c =
    let S = c.requires.0 in
    omega (arith, c.loop-i-test.true, S.listed_are, S.accepted.long)

pub overflow_mul-s : goal.overflow_mul-s
overflow_mul-s c = omega (arith, record_in_lem (goal.at.overflow_mul-s c).After-state_at-s)

pub overflow_add-records : goal.overflow_add-records
overflow_add-records c = omega (arith, record_in_lem (goal.at.overflow_add-records c).After-state_at-s)

pub overflow_add-records-in-loop-i : goal.overflow_add-records-in-loop-i
overflow_add-records-in-loop-i c = omega (arith, record_in_lem (goal.at.overflow_add-records-in-loop-i c).After-state_at-s)

pub get16-requires : goal.get16-requires
get16-requires c = omega (arith, record_in_lem (goal.at.get16-requires c).After-state_at-s)

pub overflow_sub-total : goal.overflow_sub-total
overflow_sub-total c = omega (arith, enough (goal.at.overflow_sub-total c).After-get16)

pub overflow_step-i : goal.overflow_step-i
overflow_step-i c = omega (arith, c.loop-i-test.true)

pub loop-i-smaller : goal.loop-i-smaller
loop-i-smaller c = omega (arith, c.loop-i-test.true)

pub loop-i-preserved : goal.loop-i-preserved
loop-i-preserved c =
    let listed = listed_count c.args.image.now c.args.x.now in
    (omega (arith, c.loop-i-test.true), omega (arith, enough (goal.at.loop-i-preserved c).After-get16, c.loop-i.invariant.1, sum_more listed c.loop-i.i (sum c.loop-i.i listed) c.get16.result refl (count_read (goal.at.loop-i-preserved c).After-get16)))

pub returns : goal.returns
returns c =
    let S = c.requires.0 in
    let b = c.args.image.now in
    let x = c.args.x.now in
    let e : c.loop-i.i ≡ listed_states x = omega (arith, c.loop-i.invariant.0, c.loop-i-test.false, S.listed_are) in
    omega (
      arith,
      c.loop-i.invariant.1,
      ap (λ (k : ℕ). sum k (listed_count b x)) e,
      total_is b x S.accepted,
      c.requires.1,
      c.requires.2,
      ap (λ (k : ℕ). sum k (patched_view b x).count) S.states_are,
    )
