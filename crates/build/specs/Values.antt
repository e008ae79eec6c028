-- A list of defaults from anyone: ground 8, and its values in an array.
use Rattle.std.specs.Prelude.{◌≡◌, Bool, ◌||◌, List, ℕ, ◌*◌, ◌<◌, length, get_or}
use Rattle.paper.specs.Below.{any, differ}
use Rattle.paper.specs.Words.{number16}
use Rattle.paper.specs.View.{default_bad_of}
use Rattle.paper.specs.Operations.{listed}

-- The list is not 2n bytes, or a value in it is neither 65535 nor below n.
abbrev pub list_bad_of : List ℕ → ℕ → Bool
list_bad_of ds n = differ (length ds) (2 * n) || any n (λ s. default_bad_of n (listed ds s))

-- The array holds for each state below n the value of the list.
abbrev pub Values : List ℕ → ℕ → List ℕ → Type 0
Values ds n values = (s : ℕ) → s < n → get_or values s 0 ≡ number16 ds (2 * s)
