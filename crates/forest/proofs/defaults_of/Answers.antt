-- The parts are composed: single states, the pairs taken, the roots, the defaults.
use Rattle.forest.proofs.Chosen.{chosen-defaults}
use Rattle.forest.proofs.defaults_of.Goals as goal

pub returns : goal.returns
returns c =
    let a = c.args in
    let f₀ = c.single_states.result in
    let f = c.take_all-f.result in
    chosen-defaults a.n a.k a.order a.bound c.requires.0 a.weights.now
    f₀.d f₀.parent f₀.tree f.d f.parent f.tree c.settle.result c.pointers.result
    c.single_states.ensures c.take_all-f.ensures c.settle.ensures c.pointers.ensures
