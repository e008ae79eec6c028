-- A piece of text put into lent bytes.
use Rattle.std.specs.Prelude.{◌≡◌, List, ℕ, ◌+◌, ◌≤◌, length}
use Rattle.words.specs.Placed.{placed}

-- The room holds the piece from `at` on.
abbrev pub Holds : List ℕ → ℕ → List ℕ → Type 0
Holds room at piece = at + length piece ≤ length room

-- The piece is placed in the room from `at` on, nothing else is changed, and the answer is the place behind it.
pub record Puts (room : List ℕ) (at : ℕ) (piece after : List ℕ) (answer : ℕ) : Type 0 where
  pub ends : answer ≡ at + length piece
  pub placed_is : after ≡ placed room at piece
