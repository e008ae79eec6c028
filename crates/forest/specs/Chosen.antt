-- The defaults toward the roots, by weights in an array.
use Rattle.std.specs.Prelude.{◌≡◌, List, ℕ, ◌*◌}
use Rattle.paper.specs.Table.{states, classes}
use Rattle.paper.specs.Forest.{toward_root}
use Rattle.weights.specs.Weighed.{Weighed}
use Rattle.weights.specs.Chosen.{Chosen}

-- Whatever table of n states and k classes the weights are of, the array holds its defaults toward the roots in an order with path bound D.
abbrev pub FindsRoots : ℕ → ℕ → ℕ → ℕ → List ℕ → List ℕ → Type 0
FindsRoots n k order D weights chosen = (t : List ℕ) → n ≡ states t → k ≡ classes t → Weighed t n weights (n * 512) → Chosen n (toward_root t order D) chosen
