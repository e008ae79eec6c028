-- Each turn takes a byte and reads the tag of the state that it leads to (`Turned`); the laws of the loop say the rest.
use Prim.Native.Nat.{◌*◌, ◌/◌, ◌≤◌}
use native.Mathlib.Omega.{arith}
use lib.ListN.{length, get_or}
use Rattle.labels.specs.Editions.{edition_in}
use Rattle.labels.proofs.Tags.{none_tagged}
use Rattle.running.proofs.Going.{going_start, going_length, going_answers, going_ended}
use Rattle.running.proofs.GoesOn.{going_full, going_quiet, going_loud}
use Rattle.running.proofs.Turn.{spoken, went_inside, went_small, turned}
use Rattle.running.proofs.automaton.ran.Goals as goal
use Rattle.running.proofs.automaton.ran.Goals.{then-tag-ne0+else-most-reports, else-tag-ne0}

pub loop-i-init : goal.loop-i-init
loop-i-init g c = going_start (g.A.Automaton.rules c.args.automaton.now) (length c.args.room.now / 6) c.args.state c.args.payload.now c.args.room.now c.requires.1

pub of-tag-requires : goal.of-tag-requires
of-tag-requires g c = went_inside c.args.tags.now c.requires.0 c.loop-i.run c.take.new.run (get_or c.args.payload.now c.loop-i.i 0) c.take.ensures.went c.take.ensures.reached

pub returns-then-most-reports : goal.returns-then-most-reports
returns-then-most-reports g c =
    let T = turned c.args.tags.now c.requires.0 c.loop-i.run c.take.new.run (get_or c.args.payload.now c.loop-i.i 0) c.take.ensures.went c.take.ensures.reached c.of-tag.result c.of-tag.ensures in
    going_answers c.loop-i.invariant
    (going_full c.loop-i.invariant c.loop-i-test.true (spoken c.args.tags.now c.take.new.run.state c.of-tag.result) T.labels_so (omega (arith, c.if-most-reports.true, c.how_many-many.ensures, T.many)))

pub offset_bounds-tags-next : goal.offset_bounds-tags-next
offset_bounds-tags-next g c = omega (arith, went_small c.args.tags.now c.requires.0 c.loop-i.run c.take.new.run (get_or c.args.payload.now c.loop-i.i 0) c.take.ensures.went c.take.ensures.reached)

pub bounds-tags-next : goal.bounds-tags-next
bounds-tags-next g c = went_small c.args.tags.now c.requires.0 c.loop-i.run c.take.new.run (get_or c.args.payload.now c.loop-i.i 0) c.take.ensures.went c.take.ensures.reached

pub put_tagged-requires : goal.put_tagged-requires
put_tagged-requires g c =
    let T = turned c.args.tags.now c.requires.0 c.loop-i.run c.take.new.run (get_or c.args.payload.now c.loop-i.i 0) c.take.ensures.went c.take.ensures.reached c.of-tag.result c.of-tag.ensures in
    let capacity : 6 * (length c.args.room.now / 6) ≤ length c.args.room.now = omega arith in
    (c.if-tag-ne0.true, omega (arith, going_length c.loop-i.invariant capacity, c.if-most-reports.false, c.how_many-many.ensures), T.there)

pub loop-i-preserved : goal.loop-i-preserved
loop-i-preserved g c =
    let T = turned c.args.tags.now c.requires.0 c.loop-i.run c.take.new.run (get_or c.args.payload.now c.loop-i.i 0) c.take.ensures.went c.take.ensures.reached c.of-tag.result c.of-tag.ensures in
    let h = c.loop-i-test.true in
    let capacity : 6 * (length c.args.room.now / 6) ≤ length c.args.room.now = omega arith in
    let ls = spoken c.args.tags.now c.take.new.run.state c.of-tag.result in
    elim c.if-tag-ne0.branch [
      | then-tag-ne0+else-most-reports w ↦ rw (w.run-is, w.room-is) (going_loud c.loop-i.invariant h ls T.labels_so T.reached _ _ _ T.state_is T.hops_are
          T.few (omega (arith, w.if-most-reports.false, w.how_many-many.ensures, T.many)) capacity _ w.put_tagged.ensures (omega (arith, w.how_many-many.ensures, T.many)))
      | else-tag-ne0 w ↦ rw (w.run-is, w.room-is) (going_quiet c.loop-i.invariant h ls T.labels_so T.reached _ _ _ T.state_is T.hops_are
          (none_tagged (edition_in c.args.tags.now.labels.edition) c.args.tags.now.labels.bytes.now _ c.of-tag.result w.if-tag-ne0.false) T.reports_are)
    ]

pub returns : goal.returns
returns g c =
    going_ended c.loop-i.invariant c.loop-i-test.false
