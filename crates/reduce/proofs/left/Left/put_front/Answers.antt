-- Three words and the classes, one behind the other.
use Rattle.std.proofs.Common.{ap, ◌∙◌, arith}
use Rattle.paper.specs.Labels.{first_word}
use Rattle.reduce.proofs.Filled.{front_put}
use Rattle.reduce.proofs.left.Left.put_front.Goals as goal

pub overflow_cast-self : goal.overflow_cast-self
overflow_cast-self c = omega (arith, c.args.self.now.few)

pub first_word-requires : goal.first_word-requires
first_word-requires c = c.args.self.now.few

pub returns : goal.returns
returns c =
    let s = c.args.self.now in
    let T = s.table.table in
    front_put T.bytes.now _ T.k s.count c.args.start c.args.room.now _ _ _ _ (c.first_word.ensures ∙ ap (λ e. first_word e s.count) T.of_edition) T.counted.classes_are (omega (arith, T.counted.long)) c.requires
    c.put16.ensures c.put16-2.ensures c.put16-3.ensures c.put_bytes.ensures
