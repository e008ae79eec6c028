-- The states left after n rounds: their old states, their new numbers, and what they have.
use Rattle.std.specs.Prelude.{Bool, List, ℕ, length, get_or}
use Rattle.std.proofs.Math.Option.{Option}
use Rattle.paper.specs.Table.{states, labels, next}
use Rattle.paper.specs.Reduce.{blocks, stays, new_number, staying}

module _ (t : List ℕ) (level : List (Option ℕ)) where
  -- The state stays after n rounds.
  abbrev pub kept : ℕ → Bool
  kept x = stays t level (blocks t level (states t)) x

  -- The new number of a state.
  abbrev pub new : ℕ → ℕ
  new x = new_number t level (blocks t level (states t)) x

  -- The old state of a new number.
  abbrev pub old : ℕ → ℕ
  old s = get_or (staying t level (blocks t level (states t))) s 0

  -- How many states are left.
  abbrev pub left : ℕ
  left = length (staying t level (blocks t level (states t)))

  -- The labels of a new state.
  abbrev pub new_labels : ℕ → List ℕ
  new_labels s = labels t (old s)

  -- Its next state on a class.
  abbrev pub new_next : ℕ → ℕ → ℕ
  new_next s c = new (next t (old s) c)
