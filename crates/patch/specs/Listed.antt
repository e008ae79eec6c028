-- The states that a patch lists, and for each state of an image whether it is one of them.
use Rattle.std.specs.Prelude.{◌≡◌, List, ℕ, ◌+◌, ◌<◌, get_or}
use Rattle.std.proofs.Math.Option.{Option, none, some}
use Rattle.paper.specs.Patch.{state_at_of, listed_at}
use Rattle.paper.proofs.Rising.{Rises}

-- The p states that the patch x lists rise and are below n.
pub record Listed (x : List ℕ) (p n : ℕ) : Type 0 where
  pub rises : Rises (state_at_of x) p
  pub below : (i : ℕ) → i < p → state_at_of x i < n

-- A place in the list counted from 1, 0 for none.
abbrev pub slot_of : Option ℕ → ℕ
slot_of none = 0
slot_of (some i) = i + 1

-- For each of the n states its place in the patch's list, counted from 1, or 0.
abbrev pub Slots : List ℕ → ℕ → List ℕ → Type 0
Slots x n slots = (s : ℕ) → s < n → get_or slots s 0 ≡ slot_of (listed_at x s)
