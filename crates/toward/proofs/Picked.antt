-- The first of the numbers below i with the largest value; none where no value is above 1.
use mathlib.Core.Path.{◌≡◌}
use mathlib.Core.Logic.{◌⊎◌}
use Prim.Native.Nat.{ℕ, ◌≤◌, ◌<◌}

-- A number below i has the value `best`, which is above 1, and every one before it a smaller one.
pub record First (value : ℕ → ℕ) (i best at : ℕ) : Type 0 where
  pub above : 1 < best
  pub below : at < i
  pub value_is : value at ≡ best
  pub before : (z : ℕ) → z < at → value z < best

-- No value below i is larger than `best`, and `at` is the first with it, or 65535 where it is 1.
pub record Picked (value : ℕ → ℕ) (i best at : ℕ) : Type 0 where
  pub most : (z : ℕ) → z < i → value z ≤ best
  pub found : ((best ≡ 1) × (at ≡ 65535)) ⊎ First value i best at
