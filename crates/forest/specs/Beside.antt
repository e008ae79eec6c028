-- The neighbours of each state, counted from the parents.
use Rattle.std.specs.Prelude.{◌≡◌, Bool, ◌&&◌, List, ℕ, ◌+◌, ◌<◌, eqb, get_or}
use Rattle.paper.specs.Below.{sum, bit, differ}

-- The parent of z is y, and not z itself.
abbrev pub child_of : List ℕ → ℕ → ℕ → Bool
child_of parent z y = differ (get_or parent z 0) z && eqb (get_or parent z 0) y

-- What z counts for y: one if it is y and has another parent, and one if its parent is y and not z itself.
abbrev pub counts : List ℕ → ℕ → ℕ → ℕ
counts parent y z = bit (differ (get_or parent z 0) z && eqb z y) + bit (child_of parent z y)

-- The array holds for each state what the first i states count for it.
abbrev pub NeighboursIn : List ℕ → List ℕ → ℕ → Type 0
NeighboursIn parent near i = (y : ℕ) → y < 512 → get_or near y 0 ≡ sum i (counts parent y)
