-- The order and what it goes by take the same pairs.
use Rattle.std.proofs.Common.{ℕ, subst}
use Rattle.paper.specs.Forest.{Trees, rest, falling}
use Rattle.weights.specs.Weighed.{weight_in}
use Rattle.greedy.specs.Good.{Becomes}
use Rattle.greedy.proofs.Tied.{tied_rest}
use Rattle.greedy.proofs.take_all.Goals as goal

pub returns : goal.returns
returns c =
    let a = c.args in
    let f = c.take_tied.result in
    subst (λ (r : Trees → ℕ × ℕ → ℕ). Becomes a.n a.bound (falling a.n r a.bound (weight_in a.weights.now) a.top) a.f0.d a.f0.parent a.f0.tree f.d f.parent f.tree)
    (tied_rest a.order _ a.n c.of-tie.ensures) c.take_tied.ensures
