-- The rows are opened, the slots and the labels are found, and the loop over the image with the patch is that of every automaton.
use mathlib.Core.Path.{refl, subst}
use Prim.Native.Nat.{ℕ}
use native.Mathlib.Omega.{arith}
use Rattle.paper.specs.Patch.{patched_scan_of}
use Rattle.facts.proofs.PatchFacts.{AcceptedPatch, accepted_patch}
use Rattle.image.proofs.Accepted.{accepted_laid}
use Rattle.patch.specs.Listed.{Slots}
use Rattle.patch.specs.Overlay.{Overlay}
use Rattle.patch.proofs.FromAccepted.{overlay}
use Rattle.overlaid.proofs.Laid.{few_states}
use Rattle.scan.proofs.Tags.{image_stands, image_labelled}
use Rattle.patchscan.proofs.Placed.{opened_placed, opened_above}
use Rattle.patchscan.proofs.scan_judged.Goals as goal
use Rattle.patchscan.proofs.scan_judged.Goals.{After-get16-k, Start}

-- The image takes the patch.
accepted : (t : Start) → let both = t.args.both.now in AcceptedPatch both.image.bytes.now both.x.now
accepted t = let both = t.args.both.now in accepted_patch both.image.bytes.now both.x.now both.accepted

over : (c : After-get16-k) → let both = c.args.both.now in Overlay both.image.bytes.now both.x.now both.image.n c.get16-k.result both.image.m both.p both.q
over c =
    let both = c.args.both.now in
    overlay (accepted (goal.at.After-get16-k c).Start) both.image.states_are c.get16-k.ensures both.image.entries_are both.listed_are both.entries_are

pub get16-k-requires : goal.get16-k-requires
get16-k-requires c = omega (arith, (accepted (goal.at.get16-k-requires c).Start).accepted.long)

pub open_rows-requires : goal.open_rows-requires
open_rows-requires c = (over (goal.at.open_rows-requires c).After-get16-k, refl, refl, refl, refl)

pub slots_of-slots-requires : goal.slots_of-slots-requires
slots_of-slots-requires c = let O = over (goal.at.slots_of-slots-requires c).After-get16-k in (O.counts.shaped, O.listed, few_states O)

pub firsts-requires : goal.firsts-requires
firsts-requires c =
    let i = c.args.both.now.image in
    let A = (accepted (goal.at.firsts-requires c).Start).accepted in
    (omega (arith, i.states_are, A.few_states), omega (arith, i.states_are, A.long), rw (i.states_are, c.requires.0) (accepted_laid i.bytes.now A).few_labels)

pub invariant_of-over : goal.invariant_of-over
invariant_of-over c =
    let both = c.args.both.now in
    let R = c.open_rows.ensures in
    let x = both.x.now in
    record {
      accepted = both.accepted;
      slots_are = subst (λ (n : ℕ). Slots x n c.slots_of-slots.result) both.image.states_are c.slots_of-slots.ensures;
      placed = opened_placed R both.image.states_are;
      above = opened_above both.image.bytes.now x R both.image.states_are;
      classes_is = c.get16-k.ensures;
    }

pub invariant_of-tags : goal.invariant_of-tags
invariant_of-tags c =
    let i = c.args.both.now.image in
    let S = image_stands i.bytes.now (accepted (goal.at.invariant_of-tags c).Start).accepted i.n i.states_are _ c.requires.0 c.firsts.result
    (record { edition_is = c.requires.0; firsts_are = rw (← i.states_are, ← c.requires.0) c.firsts.ensures }) in
    record { near = S.near; few_states = S.few_states; there = S.there; few = S.few; firsts_are = S.firsts_are }

pub ran-requires : goal.ran-requires
ran-requires c =
    let i = c.args.both.now.image in
    let L = image_labelled i.bytes.now (accepted (goal.at.ran-requires c).Start).accepted i.n i.states_are _ c.requires.0 in
    (record { states_are = L.states_are; labels_are = L.labels_are }, omega (arith, i.states_are, c.requires.1), c.requires.2)

pub returns : goal.returns
unfolding patched_scan_of
returns c = c.ran.ensures
