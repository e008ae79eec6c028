-- The parts of a table that stand in its image as they are.
use Rattle.std.specs.Prelude.{◌≡◌, List, ℕ, ◌+◌, ◌*◌, ◌<◌}
use Rattle.paper.specs.Words.{byte_at}
use Rattle.paper.specs.Image.{states, behind}
use Rattle.spread.specs.Kept.{Kept}

-- Where the rows begin in the table of an image: behind the numbers of its labels.
abbrev pub rows_at : List ℕ → ℕ
rows_at b = 262 + 2 * states b + 2 * behind b

-- Before the rows the room holds the first word, k and the start state of the image, and then its classes and the numbers of its labels.
pub record Fronted (b : List ℕ) (first : ℕ) (old room : List ℕ) : Type 0 where
  pub kept : Kept old room 0 first
  pub front_is : (i : ℕ) → i < 6 → byte_at room i ≡ byte_at b i
  pub rest_is : (i : ℕ) → 6 + i < first → byte_at room (6 + i) ≡ byte_at b (12 + i)
