-- The part before the last two bytes is lent to the check word.
use mathlib.Core.Path.{◌≡◌, ap, ap₂, ◌∙◌}
use Prim.Native.Nat.{ℕ, ◌-◌}
use native.Mathlib.Omega.{arith}
use lib.ListN.{length, take}
use Rattle.paper.specs.Below.{differ}
use Rattle.paper.specs.Words.{words, check_word_of}
use Rattle.judge.proofs.check_bad.Goals as goal

pub returns : goal.returns
returns c =
    let b = c.args.b.now in
    let whole : length b - 2 - 0 ≡ length b - 2 = omega arith in
    ap₂ differ c.get16.ensures (c.check_word.ensures ∙ ap (λ (n : ℕ). check_word_of (words (take n b))) whole)
