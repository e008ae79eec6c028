-- Defaults in an array.
use Rattle.std.specs.Prelude.{◌≡◌, List, ◌⊎◌, ℕ, ◌<◌, get_or}
use Rattle.std.proofs.Math.Option.{Option}
use Rattle.paper.specs.Image.{default_from_of}

-- A number in such an array is 65535 for none, else a state below n.
pub record Stands (n : ℕ) (default : Option ℕ) (number : ℕ) : Type 0 where
  pub default_is : default_from_of number ≡ default
  pub state_is : (number ≡ 65535) ⊎ (number < n)

-- The array holds the default of each state below n.
abbrev pub Chosen : ℕ → (ℕ → Option ℕ) → List ℕ → Type 0
Chosen n default chosen = (s : ℕ) → s < n → Stands n (default s) (get_or chosen s 0)
