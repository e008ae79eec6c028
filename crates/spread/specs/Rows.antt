-- The rows of a table while they are set down in a room.
use Rattle.std.specs.Prelude.{◌≡◌, List, ℕ, ◌+◌, ◌*◌, ◌≤◌, ◌<◌, length, get_or}
use Rattle.std.proofs.Math.Option.{some}
use Rattle.paper.specs.Below.{first_of, or}
use Rattle.paper.specs.Words.{number16}
use Rattle.paper.specs.View.{look}
use Rattle.paper.specs.Image.{states, classes, default_from_of, image_view}
use Rattle.facts.proofs.ImageFacts.{AcceptedImage}
use Rattle.image.specs.Laid.{Begins}
use Rattle.image.proofs.Rows.{next_for}
use Rattle.chains.specs.Sweeps.{Falls}
use Rattle.spread.specs.Kept.{Kept}
use Rattle.spread.specs.Front.{rows_at}

-- Where the row of a state begins in a table of k classes whose rows begin at `first`; at n, where the table ends.
abbrev pub row_at : ℕ → ℕ → ℕ → ℕ
row_at first k s = first + 2 * (s * k)

-- The row of a state stands in the room.
abbrev pub RowIn : ℕ → ℕ → List ℕ → ℕ → Type 0
RowIn first k room s = (s < 512) × (row_at first k s + 2 * k ≤ length room)

-- No byte of the row of k numbers at `from` is one of the row at `to`.
abbrev pub Apart : ℕ → ℕ → ℕ → Type 0
Apart from to k = (i j : ℕ) → i < 2 * k → j < 2 * k → ¬ (from + i ≡ to + j)

-- The first so many numbers of the row at `to` are those that stood in the row at `from`, and nothing else was written.
pub record RowCopied (old room : List ℕ) (from to count : ℕ) : Type 0 where
  pub kept : Kept old room to (to + 2 * count)
  pub numbers : (c : ℕ) → c < count → number16 room (to + 2 * c) ≡ number16 old (from + 2 * c)

-- The first so many entries of a part are put over the row at `at`: each number is what they store for its class, and what it was where they store nothing.
pub record Overlaid (part old room : List ℕ) (at k count : ℕ) : Type 0 where
  pub kept : Kept old room at (at + 2 * k)
  pub numbers : (c : ℕ) → c < k → number16 room (at + 2 * c) ≡ or (first_of count (next_for part c)) (number16 old (at + 2 * c))

-- The row of a state that has a default is the row that its default had, and nothing else was written.
pub record Inherited (def old room : List ℕ) (first k s : ℕ) : Type 0 where
  pub kept : Kept old room (row_at first k s) (row_at first k s + 2 * k)
  pub numbers : (d : ℕ) → default_from_of (get_or def s 0) ≡ some d → (c : ℕ) → c < k → number16 room (row_at first k s + 2 * c) ≡ number16 old (row_at first k d + 2 * c)

-- The row of a state in the room is what its chain gives for each class.
abbrev pub RowStands : List ℕ → ℕ → ℕ → List ℕ → ℕ → Type 0
RowStands b first k room s = (c : ℕ) → c < k → number16 room (row_at first k s + 2 * c) ≡ (look (image_view b) s c).target

-- An accepted image with its number of classes, the begins of its entries and its defaults, beside a room that holds its table, whose rows begin at `first`.
pub record Setting (b : List ℕ) (first k : ℕ) (begins def room : List ℕ) : Type 0 where
  pub accepted : AcceptedImage b
  pub first_is : first ≡ rows_at b
  pub classes_are : k ≡ classes b
  pub begin : Begins b begins
  pub falls : Falls (image_view b) (states b) def
  pub fits : row_at first k (states b) ≤ length room
