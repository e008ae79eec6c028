-- The entries of a state that wait at a place, and how those of the two classes from `first` on are laid over a row.
use Rattle.std.specs.Prelude.{◌≡◌, cond, List, ℕ, ◌+◌, ◌-◌, ◌*◌, ◌≤◌, ◌<◌, eqb, length, get_or}
use Rattle.paper.specs.Words.{number16}
use Rattle.paper.proofs.Rising.{Rises}

-- The class of the first of so many entries that wait at a place, 65535 where there is none.
unfoldable pub head_class_of : List ℕ → ℕ → ℕ → ℕ
head_class_of b at left = cond (eqb left 0) 65535 (number16 b at)

module _ (b : List ℕ) (at : ℕ) where
  -- The class of an entry, the entries counted from those at the place.
  abbrev pub class_in_of : ℕ → ℕ
  class_in_of i = number16 b (at + 4 * i)

  -- Its next state.
  abbrev pub next_in : ℕ → ℕ
  next_in i = number16 b (at + 4 * i + 2)

  -- So many entries wait at the place: they are in the bytes, their classes rise and are not below `first`.
  pub record Waits (first left : ℕ) : Type 0 where
    pub inside : at + 4 * left ≤ length b
    pub small : length b < 600000
    pub rises : Rises class_in_of left
    pub from : (i : ℕ) → i < left → first ≤ class_in_of i

  module _ (first row : ℕ) where
    -- The cell of an entry in the row at a place.
    abbrev pub cell_of : ℕ → ℕ
    cell_of i = row + (class_in_of i - first)

    -- The first so many entries are laid over the row: each is of the two classes and is not what its cell kept before; no other cell has changed.
    pub record Overlaid (to hop to' hop' : List ℕ) (count : ℕ) : Type 0 where
      pub to_long : length to' ≡ 1026
      pub hop_long : length hop' ≡ 1026
      pub in_two : (i : ℕ) → i < count → class_in_of i < first + 2
      pub fresh : (i : ℕ) → i < count → ¬ (get_or to (cell_of i) 0 ≡ next_in i)
      pub to_laid : (i : ℕ) → i < count → get_or to' (cell_of i) 0 ≡ next_in i
      pub hop_laid : (i : ℕ) → i < count → get_or hop' (cell_of i) 0 ≡ 1024
      pub to_other : (x : ℕ) → ((i : ℕ) → i < count → ¬ (x ≡ cell_of i)) → get_or to' x 0 ≡ get_or to x 0
      pub hop_other : (x : ℕ) → ((i : ℕ) → i < count → ¬ (x ≡ cell_of i)) → get_or hop' x 0 ≡ get_or hop x 0

    -- Some entry of the two classes is what its cell keeps.
    abbrev pub Kept : List ℕ → ℕ → Type 0
    Kept to left = (i : ℕ) × (i < left) × (class_in_of i < first + 2) × (get_or to (cell_of i) 0 ≡ next_in i)

    -- All entries of the two classes are laid, so many of those that waited; the others wait behind them.
    pub record AllLaid (left : ℕ) (to hop to' hop' : List ℕ) (count at' left' class' : ℕ) : Type 0 where
      pub overlaid : Overlaid to hop to' hop' count
      pub within : count ≤ left
      pub past : count < left → first + 2 ≤ class_in_of count
      pub at_is : at' ≡ at + 4 * count
      pub left_is : left' ≡ left - count
      pub class_is : class' ≡ head_class_of b at' left'
      pub class_small : class' < 65536
