-- A slot of 0 chooses the image, another the patch.
use Rattle.overlaid.proofs.Choosing.{chosen_image, chosen_patch}
use Rattle.overlaid.proofs.either.Goals as goal

pub returns-then-slot-eq0 : goal.returns-then-slot-eq0
returns-then-slot-eq0 c = let a = c.args in chosen_image a.image.now a.x.now a.slot c.if-slot-eq0.true

pub returns : goal.returns
returns c = let a = c.args in chosen_patch a.image.now a.x.now a.slot c.if-slot-eq0.false
