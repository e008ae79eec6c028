-- The number read is the four bytes' number.
use Rattle.paper.specs.Words.{number16, number32}
use Rattle.std.proofs.Common.{◌≡◌, ◌+◌, ◌∙◌, arith}
use Rattle.words.proofs.get32.Goals as goal

pub returns : goal.returns
unfolding number16 number32
returns c =
    let e : c.args.at + 2 + 1 ≡ c.args.at + 3 = omega arith in
    c.from_le_bytes.ensures ∙ rw e (omega arith)
