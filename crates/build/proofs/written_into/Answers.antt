-- Each ground in its order: the table's, 8, 11, 25, 16; past them the image of the defaults listed.
use Rattle.std.proofs.Common.{◌≡◌, ℕ, List, false, refl, sym, subst, ◌∙◌, arith}
use Rattle.std.proofs.lemmas.Result.{err_from_is_err_and}
use Rattle.paper.specs.Below.{any}
use Rattle.paper.specs.View.{endless}
use Rattle.paper.specs.Promises.{Writes}
use Rattle.answers.specs.Numbers.{number_of}
use Rattle.answers.proofs.Told.{not_zero, told_applies, told_number, told_passed}
use Rattle.words.proofs.Lent.{fits_bytes}
use Rattle.facts.proofs.TableFacts.{accepted_table}
use Rattle.chains.specs.Orders.{defaults_view, InRange}
use Rattle.build.specs.Values.{list_bad_of}
use Rattle.build.proofs.Lists.{list_drawn}
use Rattle.build.proofs.Listed.{list_long, values_range, write_judged, write_bad, write-endless, write_not_worth, write_fills}
use Rattle.build.proofs.written_into.Goals as goal
use Rattle.build.proofs.written_into.Goals.{After-values_of-def, Else-list_bad, In_ok-chains, In_ok-table}

-- What is answered for the bytes of the table that is judged is answered for those that came.
same : (c : In_ok-table) → (number l : ℕ) (after : List ℕ) → Writes c.in_ok-table.table.table.bytes.now c.args.defaults.now c.args.room.now number l after
    → Writes c.args.table.now c.args.defaults.now c.args.room.now number l after
same c number l after = subst (λ (t : List ℕ). Writes t c.args.defaults.now c.args.room.now number l after) c.in_ok-table.ensures.same

-- Past ground 8 the list is right.
right : (c : Else-list_bad) → list_bad_of c.args.defaults.now c.in_ok-table.table.table.n ≡ false
right c = sym c.list_bad.ensures ∙ c.if-list_bad.false

-- Its values are in range.
range : (c : After-values_of-def) → InRange c.in_ok-table.table.table.n c.values_of-def.result
range c = values_range c.args.defaults.now c.in_ok-table.table.table.n c.values_of-def.result (right (goal.at.After-values_of-def c).Else-list_bad) c.values_of-def.ensures

-- Past ground 11 no chain of them is endless.
ends : (c : In_ok-chains) → let n = c.in_ok-table.table.table.n in any n (endless (defaults_view n c.values_of-def.result)) ≡ false
ends c = told_passed _ 11 (λ e. omega arith) c.in_ok-chains.ensures.endless

pub returns-in_err-table : goal.returns-in_err-table
returns-in_err-table c =
    let p = err_from_is_err_and c.from_residual.result c.from_residual.ensures.1 in
    let refusal = c.in_err-table.field-0.0 in
    rw (p.1, p.2) (write_judged c.args.table.now c.args.defaults.now c.args.room.now (number_of refusal) 0 c.in_err-table.ensures.number (not_zero refusal) refl)

pub list_bad-requires : goal.list_bad-requires
list_bad-requires c = c.in_ok-table.table.table.counted.few_states

pub returns-then-list_bad : goal.returns-then-list_bad
returns-then-list_bad c =
    let T = c.in_ok-table.table in
    same (goal.at.returns-then-list_bad c).In_ok-table 8 0 c.args.room.now
    (write_bad T.table.bytes.now c.args.defaults.now c.args.room.now 8 0 T.accepted T.table.n T.table.counted.states_are (sym c.list_bad.ensures ∙ c.if-list_bad.true) refl refl)

pub values_of-def-requires : goal.values_of-def-requires
values_of-def-requires c =
    let T = c.in_ok-table.table.table in
    (T.counted.few_states, list_long c.args.defaults.now T.n (right (goal.at.values_of-def-requires c).Else-list_bad))

pub order_of-requires : goal.order_of-requires
order_of-requires c = (c.in_ok-table.table.table.counted.few_states, range (goal.at.order_of-requires c).After-values_of-def)

pub returns-in_err-chains : goal.returns-in_err-chains
returns-in_err-chains c =
    let p = err_from_is_err_and c.from_residual-in_err-chains.result c.from_residual-in_err-chains.ensures.1 in
    let T = c.in_ok-table.table in
    let refusal = c.in_err-chains.field-0.0 in
    let told = c.in_err-chains.ensures.endless in
    rw (p.1, p.2)
    (same (goal.at.returns-in_err-chains c).In_ok-table (number_of refusal) 0 c.args.room.now
    (write-endless T.table.bytes.now c.args.defaults.now c.args.room.now (number_of refusal) 0 T.accepted T.table.n T.table.counted.states_are
    (right (goal.at.returns-in_err-chains c).Else-list_bad) c.values_of-def.result c.values_of-def.ensures (told_applies refusal _ 11 told) (told_number refusal _ 11 told) refl))

pub invariant_of-table : goal.invariant_of-table
invariant_of-table c =
    record { readable = rw c.in_ok-table.ensures.same (fits_bytes c.args.table.now c.type_inv.table); range = range (goal.at.invariant_of-table c).After-values_of-def }

pub some_share_few-requires : goal.some_share_few-requires
some_share_few-requires c = omega (arith, c.in_ok-table.table.table.counted.few_states)

pub returns-then-some_share_few : goal.returns-then-some_share_few
returns-then-some_share_few c =
    let T = c.in_ok-table.table in
    same (goal.at.returns-then-some_share_few c).In_ok-table 25 0 c.args.room.now
    (write_not_worth T.table.bytes.now c.args.defaults.now c.args.room.now 25 0 T.accepted T.table.n T.table.counted.states_are
    (right (goal.at.returns-then-some_share_few c).Else-list_bad) c.values_of-def.result c.values_of-def.ensures (ends (goal.at.returns-then-some_share_few c).In_ok-chains)
    T.table.k T.table.counted.classes_are c.counts-counts.result c.counts-counts.ensures (sym c.some_share_few.ensures ∙ c.if-some_share_few.true) refl refl)

pub image_into-requires : goal.image_into-requires
image_into-requires c =
    let T = c.in_ok-table.table in
    list_drawn (accepted_table T.table.bytes.now T.accepted) T.table.counted.states_are (range (goal.at.image_into-requires c).After-values_of-def) c.counts-counts.ensures c.in_ok-chains.ensures.ordered

pub returns : goal.returns
returns c =
    let T = c.in_ok-table.table in
    same (goal.at.returns c).In_ok-table _ _ _
    (write_fills T.table.bytes.now c.args.defaults.now c.args.room.now _ _ T.accepted T.table.n T.table.counted.states_are
    (right (goal.at.returns c).Else-list_bad) c.values_of-def.result c.values_of-def.ensures (ends (goal.at.returns c).In_ok-chains)
    T.table.k T.table.counted.classes_are c.counts-counts.result c.counts-counts.ensures _ (sym c.some_share_few.ensures ∙ c.if-some_share_few.false) c.image_into.ensures)
