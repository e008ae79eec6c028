-- The longest path of each tree, gathered in an array.
use Rattle.std.specs.Prelude.{◌≡◌, cond, List, ℕ, ◌<◌, eqb, get_or}
use Rattle.paper.specs.Below.{largest}

-- The largest distance among the first i states of the tree t.
abbrev pub most_in : List ℕ → List ℕ → ℕ → ℕ → ℕ
most_in far tree t i = largest i (λ y. cond (eqb t (get_or tree y 0)) (get_or far y 0) 0)

-- At each of the 512 places stands the largest distance among the first i states of the tree with that number.
abbrev pub ByTree : List ℕ → List ℕ → ℕ → List ℕ → Type 0
ByTree far tree i most = (t : ℕ) → t < 512 → get_or most t 0 ≡ most_in far tree t i

-- For each of n states whose tree has such a place the longest path of its tree stands in the array.
abbrev pub LongestIn : ℕ → List ℕ → List ℕ → List ℕ → Type 0
LongestIn n far tree long = (x : ℕ) → x < n → get_or tree x 0 < 512 → get_or long x 0 ≡ most_in far tree (get_or tree x 0) n
