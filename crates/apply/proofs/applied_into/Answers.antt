-- Each way out: the image or the patch is refused, the room is too short, or the applied image fills it.
use mathlib.Core.Path.{◌≡◌, refl, sym, ap, ◌∙◌}
use mathlib.Core.List.{List}
use Prim.Native.Nat.{ℕ}
use native.Mathlib.Omega.{arith}
use lib.ListN.{length}
use Rattle.paper.specs.Below.{sum}
use Rattle.paper.specs.Words.{Bytes}
use Rattle.paper.specs.Labels.{labels_behind}
use Rattle.std.proofs.lemmas.Result.{err_from_is_err_and}
use Rattle.answers.proofs.Told.{not_zero}
use Rattle.labels.specs.Editions.{edition_in}
use Rattle.paper.specs.Image as image
use Rattle.paper.specs.Patch as patch
use Rattle.paper.specs.Patch.{listed_states, patched_view, applied}
use Rattle.paper.specs.Operations.{judge_patch_of}
use Rattle.facts.proofs.PatchFacts.{AcceptedPatch, accepted_patch}
use Rattle.trips.proofs.Applied.{length-applied}
use Rattle.words.proofs.Lent.{fits_bytes}
use Rattle.image.proofs.Accepted.{accepted_laid}
use Rattle.patch.specs.Shaped.{Counts}
use Rattle.patch.proofs.FromAccepted.{counts}
use Rattle.apply.specs.Setting.{Setting, Fitting}
use Rattle.apply.proofs.Named.{held_same}
use Rattle.apply.proofs.Filled.{small}
use Rattle.apply.proofs.Verdict.{patch_refuses, room_short, room-filled}
use Rattle.apply.proofs.applied_into.Goals as goal
use Rattle.apply.proofs.applied_into.Goals.{After-behind-held, After-image_length-whole, After-records_at-own, In_ok-both}

abbrev bytes : In_ok-both → List ℕ
bytes c = c.args.image.now

abbrev sent : In_ok-both → List ℕ
sent c = c.args.x.now

-- What was judged are the image and the patch.
same : (c : In_ok-both) → (c.in_ok-both.both.image.bytes.now ≡ bytes c) × (c.in_ok-both.both.x.now ≡ sent c)
same c = c.in_ok-both.ensures.same

-- The patch is accepted.
judged : (c : In_ok-both) → judge_patch_of (bytes c) (sent c) ≡ 0
judged c = sym c.in_ok-both.ensures.number

accepted : (c : In_ok-both) → AcceptedPatch (bytes c) (sent c)
accepted c = accepted_patch (bytes c) (sent c) (judged c)

-- The image is of bytes.
known_bytes : (c : In_ok-both) → Bytes (bytes c)
known_bytes c = fits_bytes (bytes c) c.type_inv.image

states_are : (c : In_ok-both) → c.in_ok-both.both.image.n ≡ image.states (bytes c)
states_are c = c.in_ok-both.both.image.states_are ∙ ap image.states (same c).0

entries_are : (c : In_ok-both) → c.in_ok-both.both.image.m ≡ image.entries (bytes c)
entries_are c = c.in_ok-both.both.image.entries_are ∙ ap image.entries (same c).0

listed_are : (c : In_ok-both) → c.in_ok-both.both.p ≡ listed_states (sent c)
listed_are c = c.in_ok-both.both.listed_are ∙ ap listed_states (same c).1

patch_entries_are : (c : In_ok-both) → c.in_ok-both.both.q ≡ patch.entries (sent c)
patch_entries_are c = c.in_ok-both.both.entries_are ∙ ap patch.entries (same c).1

edition_is : (c : In_ok-both) → edition_in c.in_ok-both.both.image.edition ≡ image.edition (bytes c)
edition_is c = c.in_ok-both.both.image.of_edition ∙ ap image.edition (same c).0

-- The patch has the length that p and q give, and its records count q entries.
counted_patch : (c : In_ok-both) → Counts (sent (goal.at.In_ok-both c).In_ok-both) c.in_ok-both.both.p c.in_ok-both.both.q
counted_patch c = counts (accepted (goal.at.In_ok-both c).In_ok-both) (listed_are c) (patch_entries_are c)

-- The places of the records.
setting : (c : After-records_at-own)
    → Setting (bytes (goal.at.After-records_at-own c).In_ok-both) (sent (goal.at.After-records_at-own c).In_ok-both) c.in_ok-both.both.image.n c.in_ok-both.both.p c.records_at-records.result c.records_at-own.result
setting c =
    record {
      accepted = accepted (goal.at.After-records_at-own c).In_ok-both;
      states_are = states_are (goal.at.After-records_at-own c).In_ok-both;
      listed_are = listed_are (goal.at.After-records_at-own c).In_ok-both;
      in_image = c.records_at-records.ensures;
      in_patch = c.records_at-own.ensures.0;
    }

-- The labels held are those behind the counts.
held_are : (c : After-behind-held) → c.behind-held.result ≡ image.behind (bytes (goal.at.After-behind-held c).In_ok-both)
held_are c =
    let b = bytes (goal.at.After-behind-held c).In_ok-both in
    c.behind-held.ensures.0 ∙ ap (λ (n : ℕ). labels_behind b 268 n (edition_in c.in_ok-both.both.image.edition)) (states_are (goal.at.After-behind-held c).In_ok-both)
    ∙ ap (labels_behind b 268 (image.states b)) (edition_is (goal.at.After-behind-held c).In_ok-both)

-- The numbers are small.
fitting : (c : After-behind-held)
    → Fitting (bytes (goal.at.After-behind-held c).In_ok-both) (sent (goal.at.After-behind-held c).In_ok-both) c.in_ok-both.both.image.n c.behind-held.result c.total_of-total.result (patch.depth (sent (goal.at.After-behind-held c).In_ok-both)) (patch.worst (sent (goal.at.After-behind-held c).In_ok-both))
fitting c = record { held_are = held_are c; total_is = c.total_of-total.ensures; depth_is = refl; worst_is = refl }

-- The length that was reckoned is that of the applied image.
size_is : (c : After-image_length-whole) → length (applied (bytes (goal.at.After-image_length-whole c).In_ok-both) (sent (goal.at.After-image_length-whole c).In_ok-both)) ≡ c.image_length-whole.result
size_is c =
    let i = bytes (goal.at.After-image_length-whole c).In_ok-both in
    let x = sent (goal.at.After-image_length-whole c).In_ok-both in
    let n = c.in_ok-both.both.image.n in
    omega (
      arith,
      length-applied i x,
      c.image_length-whole.ensures,
      states_are (goal.at.After-image_length-whole c).In_ok-both,
      held_same i (known_bytes (goal.at.After-image_length-whole c).In_ok-both) (accepted (goal.at.After-image_length-whole c).In_ok-both).accepted n c.behind-held.result (states_are (goal.at.After-image_length-whole c).In_ok-both) (held_are (goal.at.After-image_length-whole c).After-behind-held),
      c.total_of-total.ensures,
      ap (λ (k : ℕ). sum k (patched_view i x).count) (states_are (goal.at.After-image_length-whole c).In_ok-both),
    )

pub returns-in_err-both : goal.returns-in_err-both
returns-in_err-both c =
    let a = c.args in
    let p = err_from_is_err_and c.from_residual.result c.from_residual.ensures.1 in
    rw (p.1, p.2) (patch_refuses a.image.now a.x.now a.room.now _ _ _ c.in_err-both.ensures.number (not_zero _) refl refl)

pub records_at-records-requires : goal.records_at-records-requires
records_at-records-requires c = (states_are (goal.at.records_at-records-requires c).In_ok-both, entries_are (goal.at.records_at-records-requires c).In_ok-both, omega (arith, states_are (goal.at.records_at-records-requires c).In_ok-both, entries_are (goal.at.records_at-records-requires c).In_ok-both, (accepted (goal.at.records_at-records-requires c).In_ok-both).accepted.long))

pub records_at-own-requires : goal.records_at-own-requires
records_at-own-requires c = (counted_patch (goal.at.records_at-own-requires c).In_ok-both).shaped

pub total_of-total-requires : goal.total_of-total-requires
total_of-total-requires c = (setting (goal.at.total_of-total-requires c).After-records_at-own, entries_are (goal.at.total_of-total-requires c).In_ok-both, patch_entries_are (goal.at.total_of-total-requires c).In_ok-both)

pub behind-held-requires : goal.behind-held-requires
behind-held-requires c =
    let A = (accepted (goal.at.behind-held-requires c).In_ok-both).accepted in
    (omega (arith, states_are (goal.at.behind-held-requires c).In_ok-both, A.few_states), omega (arith, states_are (goal.at.behind-held-requires c).In_ok-both, A.long))

pub image_length-whole-requires : goal.image_length-whole-requires
image_length-whole-requires c =
    let (n, held, total) = small (accepted (goal.at.image_length-whole-requires c).In_ok-both) (states_are (goal.at.image_length-whole-requires c).In_ok-both) (fitting (goal.at.image_length-whole-requires c).After-behind-held) in
    (n, total, held)

pub returns-then-room-whole : goal.returns-then-room-whole
returns-then-room-whole c =
    let a = c.args in
    room_short a.image.now a.x.now a.room.now (judged (goal.at.returns-then-room-whole c).In_ok-both) c.image_length-whole.result (size_is (goal.at.returns-then-room-whole c).After-image_length-whole) _ _
    (omega (arith, c.if-room-whole.true)) refl refl

pub begins_of-begins-requires : goal.begins_of-begins-requires
begins_of-begins-requires c = (accepted_laid _ (accepted (goal.at.begins_of-begins-requires c).In_ok-both).accepted, states_are (goal.at.begins_of-begins-requires c).In_ok-both, entries_are (goal.at.begins_of-begins-requires c).In_ok-both)

pub begins_of-starts-requires : goal.begins_of-starts-requires
begins_of-starts-requires c = counted_patch (goal.at.begins_of-starts-requires c).In_ok-both

pub get16-depth-requires : goal.get16-depth-requires
get16-depth-requires c = omega (arith, (accepted (goal.at.get16-depth-requires c).In_ok-both).long)

pub get16-worst-requires : goal.get16-worst-requires
get16-worst-requires c = omega (arith, (accepted (goal.at.get16-worst-requires c).In_ok-both).long)

pub fill-requires : goal.fill-requires
fill-requires c = (
  setting (goal.at.fill-requires c).After-records_at-own,
  record {
    accepted = accepted (goal.at.fill-requires c).In_ok-both;
    states_are = states_are (goal.at.fill-requires c).In_ok-both;
    listed_are = listed_are (goal.at.fill-requires c).In_ok-both;
    begin = c.begins_of-begins.ensures;
    own_begin = c.begins_of-starts.ensures;
  },
  record { held_are = held_are (goal.at.fill-requires c).After-behind-held; total_is = c.total_of-total.ensures; depth_is = c.get16-depth.ensures; worst_is = c.get16-worst.ensures },
  omega (arith, c.image_length-whole.ensures, c.if-room-whole.false),
)

pub returns : goal.returns
returns c =
    let a = c.args in
    room-filled a.image.now a.x.now a.room.now (judged (goal.at.returns c).In_ok-both) c.image_length-whole.result (size_is (goal.at.returns c).After-image_length-whole) _ (omega (arith, c.if-room-whole.false)) c.fill.ensures
