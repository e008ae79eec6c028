-- Each way out: the table is refused, the room is shorter than the reduced table, or it is filled.
use Rattle.std.proofs.Common.{◌≡◌, List, ℕ, length, sym, ap, ◌∙◌, refl, arith}
use Rattle.std.proofs.lemmas.Result.{err_from_is_err_and}
use Rattle.paper.specs.Table.{table_length}
use Rattle.paper.specs.Reduce.{reduced}
use Rattle.paper.specs.Operations.{filled}
use Rattle.answers.specs.Numbers.{number_of}
use Rattle.answers.proofs.Told.{not_zero}
use Rattle.facts.proofs.TableFacts.{accepted_table}
use Rattle.table.specs.declared.Accepted.{Accepted}
use Rattle.build.proofs.Grounds.{fills_refused, fills_built}
use Rattle.reduce.proofs.Filled.{reduced_long}
use Rattle.reduce.proofs.Verdict.{reduce_table, reduce_fills}
use Rattle.reduce.proofs.reduced_into.Goals as goal
use Rattle.reduce.proofs.reduced_into.Goals.{After-held-held}

-- The states left are those of the table.
same : (c : After-held-held) → c.left_of-left.result.table.table.bytes.now ≡ c.args.table.now
same c = ap (λ (a : Accepted). a.table.bytes.now) c.left_of-left.ensures ∙ c.in_ok-table.ensures.same

-- The reduced table is as long as was reckoned.
size : (c : After-held-held) → length (reduced c.args.table.now) ≡ table_length c.left_of-left.result.count c.in_ok-table.table.table.k c.held-held.result
size c =
    let L = c.left_of-left.result in
    let t = L.table.table.bytes.now in
    sym (ap (λ (u : List ℕ). length (reduced u)) (same c))
    ∙ reduced_long t L.name L.rank L.old L.count (accepted_table t L.table.accepted) L.renumbers L.table.table.k c.held-held.result L.table.table.counted.classes_are c.held-held.ensures.0
    ∙ ap (λ (a : Accepted). table_length L.count a.table.k c.held-held.result) c.left_of-left.ensures

pub returns-in_err-table : goal.returns-in_err-table
returns-in_err-table c =
    let p = err_from_is_err_and c.from_residual.result c.from_residual.ensures.1 in
    let refusal = c.in_err-table.field-0.0 in
    rw (p.1, p.2) (reduce_table c.args.table.now c.args.room.now (number_of refusal) _ _ c.in_err-table.ensures.number (not_zero refusal) refl refl)

pub returns-then-room-whole : goal.returns-then-room-whole
returns-then-room-whole c =
    let t = c.args.table.now in
    let room = c.args.room.now in
    reduce_fills t room room _ _ (sym c.in_ok-table.ensures.number)
    (fills_refused (reduced t) room _ _ (omega (arith, c.if-room-whole.true, size (goal.at.returns-then-room-whole c).After-held-held)) refl refl)

pub returns : goal.returns
returns c =
    let t = c.args.table.now in
    let room = c.args.room.now in
    let G = (goal.at.returns c).After-held-held in
    reduce_fills t room _ _ _ (sym c.in_ok-table.ensures.number)
    (fills_built (reduced t) room _ _ (omega (arith, c.if-room-whole.false, size G)) (omega (arith, size G)) (c.fill.ensures ∙ ap (λ (u : List ℕ). filled (reduced u) room) (same G)))
