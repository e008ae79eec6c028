use Rattle.std.proofs.Common.{◌<◌, ℕ, get_or, ap, arith}
use Rattle.paper.specs.Table.{next}
use Rattle.facts.proofs.TableFacts.{accepted_table}
use Rattle.table.specs.declared.Accepted.{Accepted}
use Rattle.naming.proofs.Ordered.{run_parts}
use Rattle.rounds.specs.Steps.{after}
use Rattle.rounds.proofs.BySteps.order_of_rows.Goals as goal

-- A next state is one of at most 512.
small : (a : Accepted) (s c : ℕ) → s < a.table.n → c < a.table.k → next a.table.bytes.now s c < 512
small a s c hs hc =
    let C = a.table.counted in
    let A = accepted_table a.table.bytes.now a.accepted in
    omega (arith, C.states_are, C.classes_are, A.few_states, A.inside s c (omega arith) (omega arith))

pub bounds-name-a : goal.bounds-name-a
bounds-name-a c = omega (arith, c.next-a.ensures, small c.args.self.now.table c.args.x c.loop-c.c c.requires.x_in c.loop-c-test.true)

pub bounds-name-b : goal.bounds-name-b
bounds-name-b c = omega (arith, c.next-b.ensures, small c.args.self.now.table c.args.y c.loop-c.c c.requires.y_in c.loop-c-test.true)

pub returns-then-p-q : goal.returns-then-p-q
returns-then-p-q c =
    let s = c.args.self.now in
    let t = s.table.table.bytes.now in
    let name : ℕ → ℕ = λ x. get_or s.name.now x 0 in
    rw c.cmp.ensures
    (run_parts (after t s.name.now c.args.x) (after t s.name.now c.args.y) s.table.table.k c.loop-c.c c.loop-c.invariant c.loop-c-test.true _ _ (ap name c.next-a.ensures) (ap name c.next-b.ensures) c.if-p-q.true)
