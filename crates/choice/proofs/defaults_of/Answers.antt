-- The order says which defaults are chosen; toward the start no weights are made.
use Rattle.std.proofs.Common.{ℕ, sym, subst, arith}
use Rattle.std.proofs.Math.Option.{Option}
use Rattle.paper.proofs.Orders.{defaults-forest, defaults_toward}
use Rattle.facts.proofs.TableFacts.{accepted_table}
use Rattle.weights.specs.Chosen.{Chosen}
use Rattle.choice.proofs.defaults_of.Goals as goal

pub returns-then-order-eq3 : goal.returns-then-order-eq3
returns-then-order-eq3 c =
    let a = c.args in
    let t = a.t.now.table in
    subst (λ (f : ℕ → Option ℕ). Chosen t.n f c.defaults_of.result) (sym (defaults_toward t.bytes.now a.order a.bound c.if-order-eq3.true)) c.defaults_of.ensures

pub defaults_of-requires-2 : goal.defaults_of-requires-2
defaults_of-requires-2 c =
    let t = c.args.t.now in
    let C = t.table.counted in
    let A = accepted_table t.table.bytes.now t.accepted in
    (C.few_states, omega (arith, A.some_classes, C.classes_are), C.few_classes, c.weigh_all-seen.ensures.1)

pub returns : goal.returns
returns c =
    let a = c.args in
    let t = a.t.now.table in
    subst (λ (f : ℕ → Option ℕ). Chosen t.n f c.defaults_of-2.result) (sym (defaults-forest t.bytes.now a.order a.bound c.if-order-eq3.false))
    (c.defaults_of-2.ensures t.bytes.now t.counted.states_are t.counted.classes_are c.weigh_all-seen.ensures.0)
