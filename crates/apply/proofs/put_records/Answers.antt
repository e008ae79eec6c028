use mathlib.Core.Path.{◌≡◌, sym, ap, subst, ◌∙◌}
use Prim.Native.Nat.{ℕ, ◌+◌, ◌-◌, ◌*◌, ◌≤◌, ◌<◌}
use native.Mathlib.Omega.{arith}
use lib.ListN.{length, take, drop}
use Rattle.paper.specs.Below.{each}
use Rattle.paper.specs.Words.{Bytes}
use Rattle.paper.specs.View.{View}
use Rattle.paper.specs.Image.{records_at_of}
use Rattle.paper.specs.Results.{record_bytes}
use Rattle.paper.specs.Patch as own
use Rattle.paper.specs.Patch.{listed_states, patched_view}
use Rattle.words.specs.Placed.{placed}
use Rattle.words.proofs.Lent.{fits_bytes}
use Rattle.words.proofs.Laid.{Laid, laid_none, laid_more}
use Rattle.apply.proofs.Sizes.{record_size, records_size, few, long_image, long_patch}
use Rattle.apply.proofs.Runs.{laid_run}
use Rattle.apply.proofs.Gaps.{Between, between_start, gap_unlisted, rest_unlisted, between_more}
use Rattle.apply.proofs.Copied.{records_run, record_listed, records_wide}
use Rattle.apply.proofs.put_records.Goals as goal
use Rattle.apply.proofs.put_records.Goals.{After-copy, After-copy-2, After-state_at-s, At-loop-i}

abbrev view : At-loop-i → View
view c = patched_view c.args.image.now c.args.x.now

-- The numbers are small, the records stand in the image and in the patch, and the room holds them.
sizes : (c : At-loop-i)
    → let t = c.args in
    (t.n ≤ 512) × (t.p ≤ 64) × (t.records + 4 * t.n ≤ length t.image.now) × (t.records ≤ 600000) × (t.own + 4 * t.p ≤ length t.x.now) × (t.own ≤ 600000)
sizes c =
    let S = c.requires.0 in
    let (n, p, _, _) = few S.accepted in
    let (a, b) = long_image S.accepted in
    let (u, w) = long_patch S.accepted in
    (omega (arith, S.states_are), omega (arith, S.listed_are), omega (arith, S.states_are, S.in_image), omega (arith, S.in_image), omega (arith, S.listed_are, S.in_patch), omega (arith, S.in_patch))

fits : (c : At-loop-i) → let t = c.args in t.at + length (each t.n (record_bytes (view c))) ≤ length t.room.now
fits c = omega (arith, c.requires.2, records_size (view c) c.args.n)

-- Image and patch are bytes.
image_bytes : (c : At-loop-i) → Bytes c.args.image.now
image_bytes c = fits_bytes c.args.image.now c.type_inv.image

patch_bytes : (c : At-loop-i) → Bytes c.args.x.now
patch_bytes c = fits_bytes c.args.x.now c.type_inv.x

-- The next listed state is not before those that are done, and is one of the image.
ahead : (c : After-state_at-s)
    → let t = c.args in
    (c.loop-i.i < listed_states t.x.now) × (c.loop-i.done ≤ c.state_at-s.result) × (c.state_at-s.result < t.n)
ahead c =
    let S = c.requires.0 in
    let h : c.loop-i.i < listed_states c.args.x.now = omega (arith, c.loop-i-test.true, S.listed_are) in
    (h, omega (arith, c.loop-i.invariant.0.ahead_are c.loop-i.i (omega arith) h, c.state_at-s.ensures), omega (arith, S.accepted.below c.loop-i.i h, c.state_at-s.ensures, S.states_are))

run_laid : (c : After-copy)
    → let t = c.args in
    Laid t.room.now t.at (record_bytes (view (goal.at.After-copy c).At-loop-i)) c.state_at-s.result c.copy.new.room (t.at + 4 * c.state_at-s.result)
run_laid c =
    let S = c.requires.0 in
    let (h, from, below) = ahead (goal.at.After-copy c).After-state_at-s in
    let done = c.loop-i.done in
    let k = c.state_at-s.result - done in
    let to : done + k ≡ c.state_at-s.result = omega arith in
    let copied = records_run c.args.image.now c.args.x.now S.accepted (image_bytes (goal.at.After-copy c).At-loop-i) done k (omega (arith, S.states_are))
    (λ r u w. gap_unlisted S.accepted.rises c.loop-i.invariant.0 h r u (omega (arith, c.state_at-s.ensures))) in
    let place : c.args.records + 4 * done ≡ records_at_of c.args.image.now + 4 * done = omega (arith, S.in_image) in
    let laid = laid_run c.loop-i.invariant.2 c.args.n k (omega arith) (fits (goal.at.After-copy c).At-loop-i) c.copy.new.room (c.args.at + 4 * c.state_at-s.result)
    (omega (arith, records_wide (view (goal.at.After-copy c).At-loop-i) done k))
    (c.copy.ensures ∙ ap (λ (p : ℕ). placed c.loop-i.room (c.args.at + 4 * done) (take (4 * k) (drop p c.args.image.now))) place ∙ ap (placed c.loop-i.room (c.args.at + 4 * done)) copied) in
    subst (λ (r : ℕ). Laid c.args.room.now c.args.at (record_bytes (view (goal.at.After-copy c).At-loop-i)) r c.copy.new.room (c.args.at + 4 * c.state_at-s.result)) to laid

-- Behind the last listed state the rest is one run.
rest_laid : (c : After-copy-2)
    → let t = c.args in
    Laid t.room.now t.at (record_bytes (view (goal.at.After-copy-2 c).At-loop-i)) t.n c.copy-2.new.room (t.at + 4 * t.n)
rest_laid c =
    let S = c.requires.0 in
    let done = c.loop-i.done in
    let k = c.args.n - done in
    let to : done + k ≡ c.args.n = omega (arith, c.loop-i.invariant.1) in
    let copied = records_run c.args.image.now c.args.x.now S.accepted (image_bytes (goal.at.After-copy-2 c).At-loop-i) done k (omega (arith, S.states_are))
    (λ r u w. rest_unlisted S.accepted.rises c.loop-i.invariant.0 (omega (arith, c.loop-i-test.false, S.listed_are)) r u) in
    let place : c.args.records + 4 * done ≡ records_at_of c.args.image.now + 4 * done = omega (arith, S.in_image) in
    subst (λ (r : ℕ). Laid c.args.room.now c.args.at (record_bytes (view (goal.at.After-copy-2 c).At-loop-i)) r c.copy-2.new.room (c.args.at + 4 * c.args.n)) to
    (laid_run c.loop-i.invariant.2 c.args.n k (omega arith) (fits (goal.at.After-copy-2 c).At-loop-i) c.copy-2.new.room (c.args.at + 4 * c.args.n) (omega (arith, records_wide (view (goal.at.After-copy-2 c).At-loop-i) done k))
    (c.copy-2.ensures ∙ ap (λ (p : ℕ). placed c.loop-i.room (c.args.at + 4 * done) (take (4 * k) (drop p c.args.image.now))) place ∙ ap (placed c.loop-i.room (c.args.at + 4 * done)) copied))

pub loop-i-init : goal.loop-i-init
loop-i-init c = (between_start _, omega arith, laid_none _ _ _ _ (omega arith))

pub state_at-s-requires : goal.state_at-s-requires
state_at-s-requires c = let S = c.requires.0 in omega (arith, c.loop-i-test.true, S.listed_are, S.accepted.long)

pub overflow_mul-done : goal.overflow_mul-done
overflow_mul-done c = omega (arith, ahead (goal.at.overflow_mul-done c).After-state_at-s, sizes (goal.at.overflow_mul-done c).At-loop-i)

pub overflow_add-records : goal.overflow_add-records
overflow_add-records c = omega (arith, ahead (goal.at.overflow_add-records c).After-state_at-s, sizes (goal.at.overflow_add-records c).At-loop-i)

pub overflow_sub-s : goal.overflow_sub-s
overflow_sub-s c = omega (arith, ahead (goal.at.overflow_sub-s c).After-state_at-s)

pub overflow_mul-s : goal.overflow_mul-s
overflow_mul-s c = omega (arith, ahead (goal.at.overflow_mul-s c).After-state_at-s, sizes (goal.at.overflow_mul-s c).At-loop-i)

pub overflow_mul-done-in-loop-i : goal.overflow_mul-done-in-loop-i
overflow_mul-done-in-loop-i c = omega (arith, ahead (goal.at.overflow_mul-done-in-loop-i c).After-state_at-s, sizes (goal.at.overflow_mul-done-in-loop-i c).At-loop-i)

pub overflow_add-at : goal.overflow_add-at
overflow_add-at c = omega (arith, ahead (goal.at.overflow_add-at c).After-state_at-s, sizes (goal.at.overflow_add-at c).At-loop-i, c.requires.1)

-- Up to the next listed state a run of records is placed.
pub copy-requires : goal.copy-requires
copy-requires c =
    (omega (arith, ahead (goal.at.copy-requires c).After-state_at-s, sizes (goal.at.copy-requires c).At-loop-i), omega (arith, ahead (goal.at.copy-requires c).After-state_at-s, c.requires.2, c.loop-i.invariant.2.as_long))

pub overflow_mul-i : goal.overflow_mul-i
overflow_mul-i c = omega (arith, ahead (goal.at.overflow_mul-i c).After-state_at-s, sizes (goal.at.overflow_mul-i c).At-loop-i, c.loop-i-test.true)

pub overflow_add-own : goal.overflow_add-own
overflow_add-own c = omega (arith, ahead (goal.at.overflow_add-own c).After-state_at-s, sizes (goal.at.overflow_add-own c).At-loop-i, c.loop-i-test.true)

pub overflow_mul-s-in-loop-i : goal.overflow_mul-s-in-loop-i
overflow_mul-s-in-loop-i c = omega (arith, ahead (goal.at.overflow_mul-s-in-loop-i c).After-state_at-s, sizes (goal.at.overflow_mul-s-in-loop-i c).At-loop-i)

pub overflow_add-at-in-loop-i : goal.overflow_add-at-in-loop-i
overflow_add-at-in-loop-i c = omega (arith, ahead (goal.at.overflow_add-at-in-loop-i c).After-state_at-s, sizes (goal.at.overflow_add-at-in-loop-i c).At-loop-i, c.requires.1)

pub copy-requires-in-loop-i : goal.copy-requires-in-loop-i
copy-requires-in-loop-i c =
    (omega (arith, sizes (goal.at.copy-requires-in-loop-i c).At-loop-i, c.loop-i-test.true), omega (arith, ahead (goal.at.copy-requires-in-loop-i c).After-state_at-s, c.requires.2, (run_laid (goal.at.copy-requires-in-loop-i c).After-copy).as_long))

pub overflow_add-done : goal.overflow_add-done
overflow_add-done c = omega (arith, ahead (goal.at.overflow_add-done c).After-state_at-s, sizes (goal.at.overflow_add-done c).At-loop-i)

pub overflow_step-i : goal.overflow_step-i
overflow_step-i c = omega (arith, c.loop-i-test.true, sizes (goal.at.overflow_step-i c).At-loop-i)

pub loop-i-smaller : goal.loop-i-smaller
loop-i-smaller c = omega (arith, c.loop-i-test.true)

pub loop-i-preserved : goal.loop-i-preserved
loop-i-preserved c =
    let S = c.requires.0 in
    let v = view (goal.at.loop-i-preserved c).At-loop-i in
    let (h, _, below) = ahead (goal.at.loop-i-preserved c).After-state_at-s in
    let at = c.args.at + 4 * c.state_at-s.result in
    let place : c.args.own + 4 * c.loop-i.i ≡ own.records_at_of c.args.x.now + 4 * c.loop-i.i = omega (arith, S.in_patch) in (
      subst (λ (q : ℕ). Between c.args.x.now (c.loop-i.i + 1) (q + 1)) (sym c.state_at-s.ensures) (between_more S.accepted.rises c.loop-i.invariant.0 h),
      omega arith,
      laid_more (run_laid (goal.at.loop-i-preserved c).After-copy) c.args.n below (fits (goal.at.loop-i-preserved c).At-loop-i) _ _ (omega (arith, record_size v c.state_at-s.result))
          (c.copy-in-loop-i.ensures
          ∙ ap (λ (q : ℕ). placed c.copy.new.room at (take 4 (drop q c.args.x.now))) place
          ∙ ap (placed c.copy.new.room at) (record_listed c.args.image.now c.args.x.now S.accepted (image_bytes (goal.at.loop-i-preserved c).At-loop-i) (patch_bytes (goal.at.loop-i-preserved c).At-loop-i) c.loop-i.i h ∙ ap (record_bytes v) (sym c.state_at-s.ensures))),
    )

pub overflow_mul-done-2 : goal.overflow_mul-done-2
overflow_mul-done-2 c = omega (arith, c.loop-i.invariant.1, sizes (goal.at.overflow_mul-done-2 c).At-loop-i)

pub overflow_add-records-2 : goal.overflow_add-records-2
overflow_add-records-2 c = omega (arith, c.loop-i.invariant.1, sizes (goal.at.overflow_add-records-2 c).At-loop-i)

pub overflow_sub-n : goal.overflow_sub-n
overflow_sub-n c = omega (arith, c.loop-i.invariant.1)

pub overflow_mul-n : goal.overflow_mul-n
overflow_mul-n c = omega (arith, sizes (goal.at.overflow_mul-n c).At-loop-i)

pub overflow_mul-done-3 : goal.overflow_mul-done-3
overflow_mul-done-3 c = omega (arith, c.loop-i.invariant.1, sizes (goal.at.overflow_mul-done-3 c).At-loop-i)

pub overflow_add-at-2 : goal.overflow_add-at-2
overflow_add-at-2 c = omega (arith, c.loop-i.invariant.1, sizes (goal.at.overflow_add-at-2 c).At-loop-i, c.requires.1)

pub copy-requires-2 : goal.copy-requires-2
copy-requires-2 c =
    (omega (arith, c.loop-i.invariant.1, sizes (goal.at.copy-requires-2 c).At-loop-i), omega (arith, c.loop-i.invariant.1, c.requires.2, c.loop-i.invariant.2.as_long))

pub shape_of-room : goal.shape_of-room
shape_of-room c = (rest_laid (goal.at.shape_of-room c).After-copy-2).as_long

pub returns : goal.returns
returns c = (rest_laid (goal.at.returns c).After-copy-2).laid
