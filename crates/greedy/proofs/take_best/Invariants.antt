-- The loop's invariant: so many best pairs are joined; of the trees held now the pairs of the weight make what they make of those before, and the rows' floors are floors there.
use Rattle.pairs.specs.Tie.{order_number}
use Rattle.weights.specs.Weighed.{weight_in}
use Rattle.greedy.proofs.Joins.{Joins}
use Rattle.greedy.proofs.take_best.Given as goal

abbrev pub invariant-loop-joins : goal.invariant-loop-joins
invariant-loop-joins l =
    Joins l.n (order_number l.tie) l.bound (weight_in l.weights) l.w l.joins l.initial.f.d l.initial.f.parent l.initial.f.tree l.f.d l.f.parent l.f.tree l.low
