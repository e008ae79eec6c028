-- A shorter room is refused; any other holds the image in front.
use mathlib.Core.Path.{refl, ◌∙◌}
use Rattle.words.proofs.Placed.{placed-front}
use Rattle.build.proofs.Grounds.{fills_refused, fills_built}
use Rattle.rewrite.proofs.copied.Goals as goal

pub returns-then-room-length : goal.returns-then-room-length
returns-then-room-length c =
    let a = c.args in
    fills_refused a.image.now a.room.now 16 0 c.if-room-length.true refl refl

pub returns : goal.returns
returns c =
    let a = c.args in
    fills_built a.image.now a.room.now _ _ c.if-room-length.false refl (c.put_bytes.ensures ∙ placed-front a.room.now a.image.now)
