-- The floors of the rows after a join, one row after the other.
use mathlib.Core.Path.{◌≡◌}
use mathlib.Core.List.{List}
use Prim.Native.Nat.{ℕ, ◌≤◌, ◌<◌}
use lib.ListN.{get_or}
use Rattle.joining.specs.Filled.{Filled}

module _ (order : ℕ) (old : List ℕ) where
  -- What a row's floor may be after the join.
  abbrev RowRelaxed : ℕ → ℕ → Type 0
  RowRelaxed x a = (a ≤ get_or old x 0) × (2 ≤ order → get_or old x 0 < 65536 → a ≡ 0)

  -- The first i rows have such floors, all others their old ones.
  abbrev pub Relaxing : List ℕ → ℕ → Type 0
  Relaxing new i = Filled RowRelaxed old new i
