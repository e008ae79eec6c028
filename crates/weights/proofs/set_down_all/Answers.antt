use Rattle.std.proofs.Common.{◌≡◌, ◌+◌, arith, add-zero}
use Rattle.weights.proofs.Laid.{shared_few}
use Rattle.weights.proofs.set_down_all.Goals as goal

pub loop-j-init : goal.loop-j-init
loop-j-init g c = rw add-zero (λ L. L)

pub set_down-requires : goal.set_down-requires
set_down-requires g c =
    let a = c.args in
    let t = a.t.now in
    let j = c.loop-j.j in
    let few = t.counted.few_states in
    (omega arith, omega (arith, c.loop-j-test.true), shared_few t.bytes.now t.n t.k a.u (a.v + j) _ t.counted (c.shared_with-same.ensures j c.loop-j-test.true))

pub loop-j-preserved : goal.loop-j-preserved
loop-j-preserved g c =
    let a = c.args in
    let t = a.t.now in
    let j = c.loop-j.j in
    let e : a.v + j + 1 ≡ a.v + (j + 1) = omega arith in
    λ L. rw e at (c.set_down.ensures.more t.bytes.now t.n t.counted.few_states (omega (arith, c.loop-j-test.true)) (c.shared_with-same.ensures j c.loop-j-test.true) (c.loop-j.invariant L))

pub returns : goal.returns
returns g c = let e : c.loop-j.j ≡ g.row.N = omega arith in rw e at c.loop-j.invariant
