-- What the arrays say of a pair: whether it can be added, and the number by which an order goes among pairs of equal weight.
use Rattle.std.specs.Prelude.{Bool, List, ℕ, zero, suc, ◌+◌, ◌-◌, max, get_or}
use Rattle.weights.specs.Weighed.{weight_in}
use Rattle.pairs.specs.Taken.{is_taken}

-- The number that orders pairs of equal weight, from the longest distances of both states and the longest paths of their trees.
abbrev pub key_of : ℕ → ℕ → ℕ → ℕ → ℕ → ℕ
key_of zero du dv lu lv = 0
key_of (suc zero) du dv lu lv = du + dv + 1
key_of (suc (suc order)) du dv lu lv = du + dv + 1 - max lu lv

-- The key of the pair (u, v), by the arrays.
abbrev pub key_in : ℕ → List ℕ → List ℕ → ℕ → ℕ → ℕ
key_in order far long u v = key_of order (get_or far u 0) (get_or far v 0) (get_or long u 0) (get_or long v 0)

-- The pair (u, v) has the weight w and can be added, by the arrays.
abbrev pub fits_in : List ℕ → ℕ → List ℕ → List ℕ → ℕ → ℕ → ℕ → Bool
fits_in weights w far tree D u v = is_taken (weight_in weights u v) w (get_or tree u 0) (get_or tree v 0) (get_or far u 0) (get_or far v 0) D
