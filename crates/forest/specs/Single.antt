-- Single states in the arrays of a forest.
use Rattle.std.specs.Prelude.{◌≡◌, List, ℕ, ◌≤◌, ◌<◌, get_or}
use Rattle.paper.specs.Forest.{singles}
use Rattle.joining.specs.Rooted.{Low}
use Rattle.greedy.specs.Good.{Good}

-- Each of the first i places holds its own number.
abbrev pub Own : List ℕ → ℕ → Type 0
Own own i = (x : ℕ) → x < i → get_or own x 0 ≡ x

-- The arrays hold single states, of which there may be up to 512, within any bound.
pub record Single (far parent tree : List ℕ) : Type 0 where
  pub low : Low parent
  pub good : (n D : ℕ) → n ≤ 512 → Good n D singles far parent tree
