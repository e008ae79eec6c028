-- A test that is one of two tests.
use mathlib.Core.Path.{◌≡◌}
use mathlib.Core.Bool.{Bool, true, false, ◌||◌}

-- Where the first passes it passes.
pub or_first : (a b : Bool) → a ≡ true → true ≡ a || b
or_first a b e = rw e

-- Where the first fails the second decides.
pub or_second : (a b r : Bool) → a ≡ false → r ≡ b → r ≡ a || b
or_second a b r e q = rw e q
