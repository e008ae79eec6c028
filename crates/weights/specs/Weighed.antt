-- The weights of all pairs in an array.
use Rattle.std.specs.Prelude.{◌≡◌, Bool, List, ℕ, ◌+◌, ◌*◌, ◌<◌, eqb, get_or}
use Rattle.paper.specs.Table.{next}
use Rattle.paper.specs.Forest.{weight}

-- The weight of the pair (u, v) in an array of all weights, 512 to a first state.
abbrev pub weight_in : List ℕ → ℕ → ℕ → ℕ
weight_in weights u v = get_or weights (u * 512 + v) 0

-- The two states have equal next states on a class.
abbrev pub agree : List ℕ → ℕ → ℕ → ℕ → Bool
agree t u v c = eqb (next t u c) (next t v c)

-- All pairs of states below n whose place in the array is before `end` have their weight there.
abbrev pub Weighed : List ℕ → ℕ → List ℕ → ℕ → Type 0
Weighed t n weights end = (u v : ℕ) → u < v → v < n → u * 512 + v < end → weight_in weights u v ≡ weight t u v
