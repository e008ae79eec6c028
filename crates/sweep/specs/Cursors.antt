-- Cursors in the entries of the states, which go on class by class.
use Rattle.std.specs.Prelude.{◌≡◌, cond, ◌&&◌, List, ℕ, ◌+◌, ◌≤◌, ◌<◌, ltb, eqb, get_or}
use Rattle.paper.specs.Words.{number16}
use Rattle.paper.specs.Image.{entry_at, image_view}
use Rattle.abreast.specs.Keeps.{Cursor}

-- The cursor of a state, as a place in the image.
abbrev pub StandsAt : List ℕ → ℕ → ℕ → ℕ → Type 0
StandsAt b c s at = (j : ℕ) × (at ≡ entry_at b s j) × Cursor (image_view b) c s j

-- The list holds the cursors of the states from `from` on, below n.
abbrev pub CursorsFrom : List ℕ → ℕ → ℕ → ℕ → List ℕ → Type 0
CursorsFrom b c from n cursor = (s : ℕ) → from ≤ s → s < n → StandsAt b c s (get_or cursor s 0)

-- The list holds the cursors of the first n states.
abbrev pub Cursors : List ℕ → ℕ → ℕ → List ℕ → Type 0
Cursors b c n cursor = (s : ℕ) → s < n → StandsAt b c s (get_or cursor s 0)

-- The next state of the entry at a place, if the place is before `end` and the entry is of the class; 65535 for none.
unfoldable pub own_at : List ℕ → ℕ → ℕ → ℕ → ℕ
own_at b at end c = cond (ltb at end && eqb (number16 b at) c) (number16 b (at + 2)) 65535

-- The place behind an entry that was taken; the same place where none was.
unfoldable pub behind : ℕ → ℕ → ℕ
behind at t = cond (eqb t 65535) at (at + 4)
