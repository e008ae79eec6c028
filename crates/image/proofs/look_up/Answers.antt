use mathlib.Core.Path.{◌≡◌}
use mathlib.Core.Logic.{inl, inr}
use Prim.Native.Nat.{◌+◌, ◌*◌, ◌≤◌}
use native.Mathlib.Omega.{arith}
use lib.ListN.{length}
use borrow.Author.Rules.{rules}
use Rattle.paper.specs.View.{stored}
use Rattle.paper.specs.Image.{image_view}
use Rattle.image.specs.Forms.{step_of}
use Rattle.image.proofs.Cases.{record_default}
use Rattle.image.proofs.Accepted.{accepted_laid, part_row, record_in_lem, step_of_part}
use Rattle.image.proofs.Way.{Onward, way_start, way_answered, way_sent}
use Rattle.image.proofs.look_up.Goals as goal
use Rattle.image.proofs.look_up.Goals.{After-stored_in, At-loop-target, After-unwrap_or-s}

-- The step over the part is the state's.
step_here : (c : After-stored_in)
    → c.stored_in.result ≡ step_of (stored (image_view c.args.image.now) c.loop-target.s c.args.class)
step_here c =
    step_of_part c.args.image.now c.requires.0.accepted c.loop-target.s c.loop-target.invariant.inside c.args.class c.entries_of-row.result.now c.stored_in.result c.entries_of-row.ensures c.stored_in.ensures

-- The record of the state stands in the image.
record_here : (c : At-loop-target) → c.args.records + 4 * c.loop-target.s + 4 ≤ length c.args.image.now
record_here c = rw c.requires.0.records_is (record_in_lem c.args.image.now c.requires.0.accepted c.loop-target.s c.loop-target.invariant.inside)

-- Where nothing is stored the way goes on to where the record falls.
onward : (c : After-unwrap_or-s)
    → Onward (image_view c.args.image.now) c.args.state c.args.class c.loop-target.s c.loop-target.hops c.unwrap_or-s.result
onward c =
    let A = c.requires.0.accepted in
    let r = c.record_at-record.result in
    way_sent (image_view c.args.image.now) A.right A.few_states c.args.state c.args.class c.requires.1 c.requires.2 c.loop-target.s c.loop-target.hops c.loop-target.invariant
    c.stored_in.result (step_here (goal.at.After-unwrap_or-s c).After-stored_in) c.in_default.is
    r.fallback (record_default c.args.image.now c.loop-target.s r (rw (← c.requires.0.records_is) c.record_at-record.ensures)) c.unwrap_or-s.result 65535 c.unwrap_or-s.ensures

pub loop-target-init : goal.loop-target-init
loop-target-init c = let A = c.requires.0.accepted in way_start (image_view c.args.image.now) A.right A.few_states c.args.state c.args.class c.requires.1 c.requires.2

pub entries_of-row-requires : goal.entries_of-row-requires
entries_of-row-requires c = (accepted_laid c.args.image.now c.requires.0.accepted, c.requires.0.begin, c.loop-target.invariant.inside)

pub stored_in-requires : goal.stored_in-requires
stored_in-requires c =
    let A = c.requires.0.accepted in
    let row = part_row c.args.image.now A c.loop-target.s c.loop-target.invariant.inside in
    rw (c.entries_of-row.ensures, c.requires.0.classes_is) (row, A.few_classes, c.requires.2)

pub returns-in-Some : goal.returns-in-Some
returns-in-Some c =
    let A = c.requires.0.accepted in
    way_answered (image_view c.args.image.now) A.right A.few_states c.args.state c.args.class c.requires.1 c.requires.2 c.loop-target.s c.loop-target.hops c.loop-target.invariant
    c.stored_in.result (step_here (goal.at.returns-in-Some c).After-stored_in) _ c.in-Some.is

pub overflow_add-records : goal.overflow_add-records
overflow_add-records c = search (rules, record_here (goal.at.overflow_add-records c).At-loop-target)

pub record_at-record-requires : goal.record_at-record-requires
record_at-record-requires c = omega (arith, record_here (goal.at.record_at-record-requires c).At-loop-target)

pub overflow_add-hops : goal.overflow_add-hops
overflow_add-hops c = let o = onward (goal.at.overflow_add-hops c).After-unwrap_or-s in search (rules, o.nearer, c.loop-target.invariant.few)

pub loop-target-smaller : goal.loop-target-smaller
loop-target-smaller c = omega (arith, (onward (goal.at.loop-target-smaller c).After-unwrap_or-s).nearer)

pub loop-target-preserved : goal.loop-target-preserved
loop-target-preserved c = (onward (goal.at.loop-target-preserved c).After-unwrap_or-s).way
