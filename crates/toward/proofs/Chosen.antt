-- The defaults in their array, state by state.
use mathlib.Core.List.{List}
use mathlib.Core.Option.{Option}
use Prim.Native.Nat.{ℕ, ◌<◌}
use lib.ListN.{get_or}
use Rattle.weights.specs.Chosen.{Stands}

-- Each state below i has its default in the array.
abbrev pub ChosenTo : ℕ → (ℕ → Option ℕ) → List ℕ → ℕ → Type 0
ChosenTo n default chosen i = (s : ℕ) → s < i → Stands n (default s) (get_or chosen s 0)
