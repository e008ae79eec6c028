-- What is looked for among the states: the classes that one of lower level shares.
use Rattle.std.specs.Prelude.{cond, List, ℕ, ltb, get_or}
use Rattle.paper.specs.Table.{shared}

-- The number of classes that x and y share where y is of lower level by the array, else 0.
abbrev pub candidate : List ℕ → List ℕ → ℕ → ℕ → ℕ
candidate t levels x y = cond (ltb (get_or levels y 0) (get_or levels x 0)) (shared t x y) 0
