-- All bytes are copied.
use Rattle.std.proofs.Common.{ℕ, List, ap, ◌∙◌, arith}
use lib.Seq.{take-length}
use Rattle.words.specs.Placed.{placed}
use Rattle.words.proofs.put_bytes.Goals as goal

pub returns : goal.returns
returns c =
    let a = c.args in
    c.copy.ensures ∙ ap (λ (bytes : List ℕ). placed a.room.now a.at bytes) (take-length a.bytes.now)
