-- A table with its defaults in a list and the counts of its states, its image, and what becomes of a result and a room for it.
use Rattle.std.specs.Prelude.{◌≡◌, List, [], ◌∷◌, ℕ, ltb, length, get_or}
use Rattle.paper.specs.Below.{sum}
use Rattle.paper.specs.Table.{states, classes, behind}
use Rattle.paper.specs.Refusals.{first}
use Rattle.paper.specs.View.{depth_of}
use Rattle.paper.specs.Image.{default_from_of}
use Rattle.paper.specs.Results.{image_of}
use Rattle.paper.specs.Operations.{building}
use Rattle.paper.specs.Promises.{IsBuilt}
use Rattle.facts.proofs.TableFacts.{AcceptedTable}
use Rattle.chains.specs.Orders.{InRange, ParentFirst}
use Rattle.tally.specs.Kept.{Counts}
use Rattle.tally.specs.Owned.{list_view}

-- The image of a table with the defaults of a list.
abbrev pub list_image_of : List ℕ → List ℕ → List ℕ
list_image_of t def = image_of t (λ s. default_from_of (get_or def s 0))

-- An accepted table of n states and k classes, with so many labels held behind their counts and defaults in range, the count of each state, and m.
pub record Measured (t : List ℕ) (n k held : ℕ) (def counts : List ℕ) (m : ℕ) : Type 0 where
  pub accepted : AcceptedTable t
  pub states_are : n ≡ states t
  pub classes_are : k ≡ classes t
  pub held_are : held ≡ behind t
  pub range : InRange n def
  pub counted : Counts t n def counts
  pub total_is : m ≡ sum n (λ s. get_or counts s 0)

-- An accepted table with defaults in range, the count of each state, an order in which each comes after its default, and the depth.
pub record Drawn (t def counts order : List ℕ) (depth : ℕ) : Type 0 where
  pub accepted : AcceptedTable t
  pub range : InRange (states t) def
  pub counted : Counts t (states t) def counts
  pub first : ParentFirst (states t) def order
  pub depth_is : depth ≡ depth_of (list_view t def)

-- A result for a room: refused on ground 16 where the room is shorter, else built.
abbrev pub Fills : List ℕ → List ℕ → ℕ → ℕ → List ℕ → Type 0
Fills result room = IsBuilt (building (first ((16, ltb (length room) (length result)) ∷ [])) result room)
