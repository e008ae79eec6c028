-- The numbers of the orders that go by the weights of pairs.
use Rattle.std.specs.Prelude.{ℕ}
use Rattle.pairs.specs.declared.Tie.{Tie}
use Rattle.pairs.specs.declared.Tie.TheVariants.{States, Path, Growth}

-- The number of the order that lets such pairs of equal weight go first.
abbrev pub order_number : Tie → ℕ
order_number States = 0
order_number Path = 1
order_number Growth = 2
