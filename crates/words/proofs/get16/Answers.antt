-- The number read is the two bytes' number.
use Rattle.paper.specs.Words.{number16}
use Rattle.std.proofs.Common.{◌∙◌, arith}
use Rattle.words.proofs.get16.Goals as goal

pub returns : goal.returns
unfolding number16
returns c = c.from_le_bytes.ensures ∙ omega arith
