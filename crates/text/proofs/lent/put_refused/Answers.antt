-- The word and a space, and behind them the line of the number.
use mathlib.Core.List.{List, [], ◌∷◌, ◌++◌}
use Prim.Native.Nat.{ℕ}
use native.Mathlib.Omega.{arith}
use Rattle.paper.specs.Text.{line, refused_line}
use Rattle.text.specs.Puts.{Holds}
use Rattle.text.proofs.Puts.{holds_first, holds_then, puts_then}
use Rattle.text.proofs.lent.put_refused.Goals as goal
use Rattle.text.proofs.lent.put_refused.Goals.{Start}

-- The word "refused" and a space.
abbrev word : List ℕ
word = 114 ∷ 101 ∷ 102 ∷ 117 ∷ 115 ∷ 101 ∷ 100 ∷ 32 ∷ []

-- The room holds the word and the line of the number.
holds_both : (c : Start) → Holds c.args.out.now c.args.at (word ++ line (c.args.number ∷ []))
unfolding refused_line
holds_both c = c.requires

pub put-here-requires : goal.put-here-requires
put-here-requires c = holds_first c.args.out.now c.args.at word (line (c.args.number ∷ [])) (holds_both (goal.at.put-here-requires c).Start)

pub put_line-requires : goal.put_line-requires
put_line-requires c =
    (omega arith, holds_then c.put-here.ensures (line (c.args.number ∷ [])) (holds_both (goal.at.put_line-requires c).Start))

pub returns : goal.returns
unfolding refused_line
returns c =
    puts_then c.put-here.ensures (holds_both (goal.at.returns c).Start) c.put_line.ensures
