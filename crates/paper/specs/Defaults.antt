-- The defaults of a table in every order: those of the forest in the orders 0, 1 and 2, in order 3 those toward the start.
use Rattle.std.specs.Prelude.{cond, List, ℕ, eqb}
use Rattle.std.proofs.Math.Option.{Option}
use Rattle.paper.specs.Forest.{toward_root}
use Rattle.paper.specs.FallBack.{toward_start}

-- The default of each state of a table in an order with path bound D, which order 3 ignores.
unfoldable pub defaults : List ℕ → ℕ → ℕ → ℕ → Option ℕ
defaults t order D = cond (eqb order 3) (toward_start t) (toward_root t order D)
