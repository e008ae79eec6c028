-- The classes are written as they are.
use Rattle.std.proofs.Common.{List, ℕ, sym, ap, ◌∙◌, arith}
use Rattle.words.specs.Placed.{placed}
use Rattle.tableparts.proofs.Written.{classes_are}
use Rattle.tableparts.proofs.put_classes.Goals as goal

pub returns : goal.returns
returns c =
    let a = c.args in
    c.put_bytes.ensures ∙ ap (λ (bytes : List ℕ). placed a.room.now 6 bytes) (sym (classes_are a.classes.now (omega arith)))
