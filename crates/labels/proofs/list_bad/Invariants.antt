-- The loop's invariant: none of the first j labels is not above what it is held to, and `low` is what the next is held to.
use Rattle.std.proofs.Common.{◌≡◌, ◌+◌, ◌*◌, Bool, false, List, ℕ, leb}
use Rattle.paper.specs.Below.{any}
use Rattle.paper.specs.Words.{number16}
use Rattle.labels.specs.Lists.{low_of}
use Rattle.labels.proofs.list_bad.Given as goal

-- Label j is not above what it is held to.
abbrev pub falls : List ℕ → ℕ → ℕ → Bool
falls b from j = leb (number16 b (from + 2 * j)) (low_of b from j)

abbrev pub invariant-loop-j : goal.invariant-loop-j
invariant-loop-j l = (l.low ≡ low_of l.b l.from l.j) × (any l.j (falls l.b l.from) ≡ false)
