-- The weights of pairs set down one after the other, in the array of all weights and among those seen.
use Rattle.std.specs.Prelude.{◌≡◌, List, ℕ, ◌+◌, ◌*◌, ◌≤◌, ◌<◌, length}
use Rattle.paper.specs.Table.{shared}
use Rattle.paper.specs.Forest.{weight}
use Rattle.weights.specs.Weighed.{Weighed}
use Rattle.weights.specs.Named.{Named}

-- The weights of all pairs of states below n whose place is before `end` are set down in both arrays.
pub record Laid (t : List ℕ) (n : ℕ) (weights seen : List ℕ) (end : ℕ) : Type 0 where
  pub long_weights : length weights ≡ 262144
  pub weighed : Weighed t n weights end
  pub long_seen : length seen ≡ 256
  pub named : Named (weight t) n end seen

-- Whatever table has a pair u, v that shares so many classes: if its pairs before were set down, so is this one now.
pub record Lays (weights seen : List ℕ) (u v same : ℕ) (weights' seen' : List ℕ) : Type 0 where
  pub long_weights : length weights' ≡ 262144
  pub long_seen : length seen' ≡ 256
  pub more : (t : List ℕ) (n : ℕ) → n ≤ 512 → v < n → same ≡ shared t u v → Laid t n weights seen (u * 512 + v) → Laid t n weights' seen' (u * 512 + (v + 1))
