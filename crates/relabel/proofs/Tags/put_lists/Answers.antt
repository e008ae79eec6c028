-- The lists stand behind their counts.
use native.Mathlib.Omega.{arith}
use Rattle.relabel.proofs.Across.{length-listed, lists_put}
use Rattle.relabel.proofs.Tags.put_lists.Goals as goal

pub put_labels-requires : goal.put_labels-requires
put_labels-requires c =
    let a = c.args.self.now in omega (arith, length-listed a.image.now a.n)

pub returns : goal.returns
returns c =
    lists_put c.args.self.now.image.now c.args.room.now _ _ c.args.self.now.n (omega (arith, c.requires)) c.put_counts.ensures c.put_labels.ensures
