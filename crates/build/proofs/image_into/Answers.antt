-- The numbers of the image are counted; a shorter room is refused, any other is filled.
use Rattle.std.proofs.Common.{refl, sym, ◌∙◌, arith}
use Rattle.build.proofs.Counted.{total_few, held_few, image_long}
use Rattle.build.proofs.Grounds.{fills_refused, fills_built}
use Rattle.build.proofs.Lists.{drawn_measured}
use Rattle.build.proofs.image_into.Goals as goal

pub image_length-whole-requires : goal.image_length-whole-requires
image_length-whole-requires g c =
    let M = drawn_measured c.requires c.states-n.ensures c.held-held.ensures c.sum_of-m.ensures in
    (omega (arith, M.states_are, M.accepted.few_states), total_few M, held_few M)

pub returns-then-room-whole : goal.returns-then-room-whole
returns-then-room-whole g c =
    let M = drawn_measured c.requires c.states-n.ensures c.held-held.ensures c.sum_of-m.ensures in
    fills_refused _ c.args.room.now 16 0 (omega (arith, c.if-room-whole.true, c.image_length-whole.ensures, image_long M)) refl refl

pub emit-requires : goal.emit-requires
emit-requires g c =
    (drawn_measured c.requires c.states-n.ensures c.held-held.ensures c.sum_of-m.ensures, c.requires.depth_is, c.worst_by-worst.ensures, omega (arith, c.if-room-whole.false, c.image_length-whole.ensures))

pub returns : goal.returns
returns g c =
    let long = image_long (drawn_measured c.requires c.states-n.ensures c.held-held.ensures c.sum_of-m.ensures) in
    fills_built _ c.args.room.now _ _ (omega (arith, c.if-room-whole.false, c.image_length-whole.ensures, long)) (c.image_length-whole.ensures ∙ sym long) c.emit.ensures
