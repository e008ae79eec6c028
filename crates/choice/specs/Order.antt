-- The numbers of the orders.
use Rattle.std.specs.Prelude.{ℕ}
use Rattle.pairs.specs.Tie.{order_number}
use Rattle.choice.specs.declared.Order.{Order}
use Rattle.choice.specs.declared.Order.TheVariants.{Roots, Start}

-- The number of an order; toward the start it is 3.
abbrev pub number_of_order : Order → ℕ
number_of_order (Roots tie) = order_number tie
number_of_order Start = 3
