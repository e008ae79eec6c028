-- The check word of the bytes before the place is put there.
use Rattle.std.proofs.Common.{ℕ, ap, ◌∙◌}
use Rattle.paper.specs.Words.{bytes16}
use Rattle.words.specs.Placed.{placed}
use Rattle.ending.proofs.put_check.Goals as goal

pub returns : goal.returns
returns c = c.put16.ensures ∙ ap (λ (x : ℕ). placed c.args.room.now c.args.at (bytes16 x)) c.check_before-check.ensures
