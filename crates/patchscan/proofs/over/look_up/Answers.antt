use mathlib.Core.Path.{◌≡◌}
use Prim.Native.Nat.{◌<◌}
use native.Mathlib.Omega.{arith}
use lib.ListN.{get_or}
use Rattle.paper.specs.View.{View, stored}
use Rattle.paper.specs.Patch.{patched_view}
use Rattle.facts.proofs.PatchFacts.{AcceptedPatch, accepted_patch}
use Rattle.image.specs.Forms.{step_of}
use Rattle.image.proofs.Reading.{reading_row, reading_step}
use Rattle.image.proofs.Way.{Onward, way_start, way_answered}
use Rattle.patchscan.proofs.Found.{way_falls}
use Rattle.patchscan.proofs.over.look_up.Goals as goal
use Rattle.patchscan.proofs.over.look_up.Goals.{After-stored_in, In_default, Start}

-- The view of the image with the patch.
abbrev view : Start → View
view t = patched_view t.args.over.now.image.now t.args.over.now.x.now

-- The image takes the patch.
accepted : (t : Start) → AcceptedPatch t.args.over.now.image.now t.args.over.now.x.now
accepted t = accepted_patch t.args.over.now.image.now t.args.over.now.x.now t.args.over.now.accepted

-- The step over the part is the state's.
step_here : (c : After-stored_in)
    → c.stored_in.result ≡ step_of (stored (view (goal.at.After-stored_in c).Start) c.loop-target.s c.args.class)
step_here c = reading_step c.row_of-row.ensures c.args.class c.stored_in.result c.stored_in.ensures

in_lists : (c : In_default) → c.loop-target.s < 512
in_lists c = omega (arith, c.loop-target.invariant.inside, (accepted (goal.at.In_default c).Start).accepted.few_states)

-- Where nothing is stored the way goes on to where the state falls.
onward : (c : In_default)
    → Onward (view (goal.at.In_default c).Start) c.args.state c.args.class c.loop-target.s c.loop-target.hops (get_or c.args.over.now.up.now c.loop-target.s 0)
onward c =
    let A = (accepted (goal.at.In_default c).Start) in
    way_falls (view (goal.at.In_default c).Start) A.right A.accepted.few_states c.args.state c.args.class c.requires.0 c.requires.1 c.loop-target.s c.loop-target.hops c.loop-target.invariant
    c.stored_in.result (step_here (goal.at.In_default c).After-stored_in) c.in_default.is _ (λ d e. c.args.over.now.above.falls c.loop-target.s d c.loop-target.invariant.inside e)

pub loop-target-init : goal.loop-target-init
loop-target-init c =
    let A = (accepted (goal.at.loop-target-init c).Start) in
    way_start (view (goal.at.loop-target-init c).Start) A.right A.accepted.few_states c.args.state c.args.class c.requires.0 c.requires.1

pub overflow_cast-s : goal.overflow_cast-s
overflow_cast-s c = omega (arith, c.loop-target.invariant.inside, (accepted (goal.at.overflow_cast-s c).Start).accepted.few_states)

pub row_of-row-requires : goal.row_of-row-requires
row_of-row-requires c = c.loop-target.invariant.inside

pub stored_in-requires : goal.stored_in-requires
stored_in-requires c =
    let A = (accepted (goal.at.stored_in-requires c).Start) in
    rw c.args.over.now.classes_is (reading_row c.row_of-row.ensures A.right c.loop-target.invariant.inside, A.accepted.few_classes, c.requires.1)

pub returns-in-Some : goal.returns-in-Some
returns-in-Some c =
    let A = (accepted (goal.at.returns-in-Some c).Start) in
    let (target, hops, _) = way_answered (view (goal.at.returns-in-Some c).Start) A.right A.accepted.few_states c.args.state c.args.class c.requires.0 c.requires.1 c.loop-target.s c.loop-target.hops c.loop-target.invariant
    c.stored_in.result (step_here (goal.at.returns-in-Some c).After-stored_in) _ c.in-Some.is in
    (target, hops)

pub overflow_cast-s-in-loop-target : goal.overflow_cast-s-in-loop-target
overflow_cast-s-in-loop-target c = omega (arith, in_lists (goal.at.overflow_cast-s-in-loop-target c).In_default)

pub offset_bounds-over-s : goal.offset_bounds-over-s
offset_bounds-over-s c = omega (arith, in_lists (goal.at.offset_bounds-over-s c).In_default)

pub bounds-over-s : goal.bounds-over-s
bounds-over-s c = omega (arith, in_lists (goal.at.bounds-over-s c).In_default)

pub overflow_add-hops : goal.overflow_add-hops
overflow_add-hops c = omega (arith, c.loop-target.invariant.few)

pub loop-target-smaller : goal.loop-target-smaller
loop-target-smaller c = omega (arith, (onward (goal.at.loop-target-smaller c).In_default).nearer)

pub loop-target-preserved : goal.loop-target-preserved
loop-target-preserved c = (onward (goal.at.loop-target-preserved c).In_default).way
