-- Each ground in its order: 18, the table's, 16; past them the image of the defaults of the order.
use Rattle.std.proofs.Common.{◌≡◌, ℕ, ◌≤◌, List, false, true, None, Some, refl, sym, ap, subst, ◌∙◌, arith}
use Rattle.std.proofs.lemmas.Result.{err_from_is_err_and}
use Rattle.paper.specs.Defaults.{defaults}
use Rattle.paper.specs.Promises.{Compacts}
use Rattle.answers.specs.Numbers.{number_of}
use Rattle.answers.specs.declared.Refusal.TheVariants.{Order}
use Rattle.answers.proofs.Told.{not_zero, told_applies}
use Rattle.words.proofs.Lent.{fits_bytes}
use Rattle.facts.proofs.TableFacts.{accepted_table}
use Rattle.weights.specs.Chosen.{Chosen}
use Rattle.chains.specs.Orders.{InRange}
use Rattle.choice.specs.Order.{number_of_order}
use Rattle.build.proofs.Lists.{list_drawn}
use Rattle.build.proofs.Chosen.{known_order, chosen_range, chosen-ends, compact_unknown, compact_judged, compact_fills}
use Rattle.build.proofs.compacted_into.Goals as goal
use Rattle.build.proofs.compacted_into.Goals.{After-defaults_of-def, In_ok-order, In_ok-table}

-- The order has the number that came.
number_is : (c : In_ok-order) → number_of_order c.in_ok-order.order ≡ c.args.order
number_is c =
    let e : c.of.result ≡ Some c.in_ok-order.order = grind arith in
    rw e at c.of.ensures

-- So that is at most 3.
known : (c : In_ok-order) → c.args.order ≤ 3
known c = omega (arith, number_is c, known_order c.in_ok-order.order)

-- What is answered for the bytes of the table that is judged is answered for those that came.
same : (c : In_ok-table) → (number l : ℕ) (after : List ℕ) → Compacts c.in_ok-table.table.table.bytes.now c.args.order c.args.bound c.args.room.now number l after
    → Compacts c.args.table.now c.args.order c.args.bound c.args.room.now number l after
same c number l after = subst (λ (t : List ℕ). Compacts t c.args.order c.args.bound c.args.room.now number l after) c.in_ok-table.ensures.same

-- The defaults are those of that order.
chosen : (c : After-defaults_of-def) → let T = c.in_ok-table.table.table in Chosen T.n (defaults T.bytes.now c.args.order c.args.bound) c.defaults_of-def.result
chosen c =
    let e : c.number.result ≡ c.args.order = c.number.ensures ∙ number_is (goal.at.After-defaults_of-def c).In_ok-order in
    rw (← e) c.defaults_of-def.ensures

-- They are in range.
range : (c : After-defaults_of-def) → InRange c.in_ok-table.table.table.n c.defaults_of-def.result
range c =
    let T = c.in_ok-table.table.table in
    chosen_range T.bytes.now c.args.order c.args.bound T.n c.defaults_of-def.result T.counted.states_are (chosen c)

pub returns-in_err-order : goal.returns-in_err-order
returns-in_err-order c =
    let p = err_from_is_err_and c.from_residual.result c.from_residual.ensures.1 in
    let e : c.of.result ≡ None = grind arith in
    let q : c.in_err-order.field-0.0 ≡ Order = grind arith in
    rw (p.1, p.2) (compact_unknown c.args.table.now c.args.order c.args.bound c.args.room.now _ 0 (rw e at c.of.ensures) (ap number_of q) refl)

pub returns-in_err-table : goal.returns-in_err-table
returns-in_err-table c =
    let p = err_from_is_err_and c.from_residual-in_err-table.result c.from_residual-in_err-table.ensures.1 in
    let refusal = c.in_err-table.field-0.0 in
    rw (p.1, p.2)
    (compact_judged c.args.table.now c.args.order c.args.bound c.args.room.now (number_of refusal) 0 (known (goal.at.returns-in_err-table c).In_ok-order) c.in_err-table.ensures.number (not_zero refusal) refl)

pub order_of-requires : goal.order_of-requires
order_of-requires c = (c.in_ok-table.table.table.counted.few_states, range (goal.at.order_of-requires c).After-defaults_of-def)

pub returns-in_err-chains : goal.returns-in_err-chains
returns-in_err-chains c =
    let T = c.in_ok-table.table in
    let refusal = c.in_err-chains.field-0.0 in
    let ends = chosen-ends T.table.bytes.now c.args.order c.args.bound T.table.n c.defaults_of-def.result T.table.counted.states_are (chosen (goal.at.returns-in_err-chains c).After-defaults_of-def) T.accepted in
    let z : true ≡ false = sym (told_applies refusal _ 11 c.in_err-chains.ensures.endless) ∙ ends in
    cc

pub invariant_of-table : goal.invariant_of-table
invariant_of-table c =
    record { readable = rw c.in_ok-table.ensures.same (fits_bytes c.args.table.now c.type_inv.table); range = range (goal.at.invariant_of-table c).After-defaults_of-def }

pub image_into-requires : goal.image_into-requires
image_into-requires c =
    let T = c.in_ok-table.table in
    list_drawn (accepted_table T.table.bytes.now T.accepted) T.table.counted.states_are (range (goal.at.image_into-requires c).After-defaults_of-def) c.counts-counts.ensures c.in_ok-chains.ensures.ordered

pub returns : goal.returns
returns c =
    let T = c.in_ok-table.table in
    same (goal.at.returns c).In_ok-table _ _ _
    (compact_fills T.table.bytes.now c.args.order c.args.bound c.args.room.now _ _ (known (goal.at.returns c).In_ok-order) T.accepted T.table.n c.defaults_of-def.result T.table.counted.states_are
    (chosen (goal.at.returns c).After-defaults_of-def) _ c.image_into.ensures)
