use Rattle.std.proofs.Common.{◌+◌, ◌*◌}
use Rattle.paper.specs.Words.{number16}
use Rattle.naming.proofs.Ordered.{run_parts}
use Rattle.naming.proofs.order_of_runs.Goals as goal

pub returns-then-a-b : goal.returns-then-a-b
returns-then-a-b c =
    let a = c.args in
    rw c.cmp.ensures
    (run_parts (λ i. number16 a.t.now (a.from + 2 * i)) (λ i. number16 a.t.now (a.other + 2 * i)) a.count c.loop-j.j c.loop-j.invariant c.loop-j-test.true _ _ c.get16-a.ensures c.get16-b.ensures c.if-a-b.true)
