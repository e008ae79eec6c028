-- The invariant of the loop: the weights from `at` on are taken.
use Rattle.std.proofs.Common.{◌-◌}
use Rattle.paper.specs.Forest.{rest}
use Rattle.pairs.specs.Tie.{order_number}
use Rattle.weights.specs.Weighed.{weight_in}
use Rattle.greedy.proofs.Falls.{Falls}
use Rattle.greedy.proofs.take_tied.Given as goal

abbrev pub invariant-loop-at : goal.invariant-loop-at
invariant-loop-at l =
    Falls l.n (rest (order_number l.tie) l.n) l.bound (weight_in l.weights) l.top (l.at - 1) l.initial.f.d l.initial.f.parent l.initial.f.tree l.f.d l.f.parent l.f.tree
