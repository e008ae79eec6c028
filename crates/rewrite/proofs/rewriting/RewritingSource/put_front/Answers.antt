use Rattle.std.proofs.Common.{ap, ◌∙◌, arith}
use Rattle.words.specs.Placed.{placed}
use Rattle.rewrite.proofs.Setting.{image_accepted}
use Rattle.rewrite.proofs.Entries.{front_read}
use Rattle.rewrite.proofs.rewriting.RewritingSource.put_front.Goals as goal

pub put_front-requires : goal.put_front-requires
put_front-requires c = (omega (arith, (image_accepted c.args.self.now.image).long), c.requires)

pub returns : goal.returns
returns c =
    let r = c.args.self.now in
    c.put_front.ensures ∙ ap (placed c.args.room.now 0) (front_read r.image.bytes.now r.readable (image_accepted r.image) c.args.depth c.args.m)
