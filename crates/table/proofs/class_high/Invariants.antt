-- The loop's invariant: the largest class of the first x bytes.
use Rattle.std.proofs.Common.{◌≡◌, List, ℕ, ◌+◌}
use Rattle.paper.specs.Below.{largest}
use Rattle.paper.specs.Words.{byte_at}
use Rattle.table.proofs.class_high.Given as goal

-- The class of byte x.
abbrev pub class : List ℕ → ℕ → ℕ → ℕ
class b at x = byte_at b (at + x)

abbrev pub invariant-loop-x : goal.invariant-loop-x
invariant-loop-x l = l.most ≡ largest l.x (class l.b l.at)
