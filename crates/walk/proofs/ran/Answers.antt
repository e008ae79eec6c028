-- The table is refused, or 14 or 15 applies, or an accepted table is walked in its edition.
use mathlib.Core.Path.{◌≡◌, ap, ◌∙◌}
use Prim.Native.Nat.{ℕ}
use Rattle.std.proofs.lemmas.Result.{err_from_is_err_and}
use Rattle.paper.specs.Table.{states}
use Rattle.paper.specs.Scan.{walk_of}
use Rattle.paper.specs.Operations.{scanning, walk}
use Rattle.running.proofs.Verdict.{later}
use Rattle.walk.proofs.Verdict.{walk_refused, walk_refused_later, walk_ran}
use Rattle.walk.proofs.ran.Goals as goal
use Rattle.walk.proofs.ran.Goals.{In_ok-allowed, In_ok-table}
use lib.ListN.{length}

-- n is the table's.
states_are : (c : In_ok-table) → c.in_ok-table.table.table.n ≡ states c.args.table.now
states_are c = c.in_ok-table.table.table.counted.states_are ∙ ap states c.in_ok-table.ensures.same

-- Neither 14 nor 15 applies.
done : (c : In_ok-allowed) → let t = c.args in walk t.table.now t.state t.payload.now t.room.now ≡ scanning 0 (walk_of t.table.now t.state t.payload.now (length t.room.now)) t.room.now
done c =
    let t = c.args in
    walk_ran t.table.now t.state t.payload.now t.room.now c.in_ok-table.ensures.number (c.in_ok-allowed.ensures ∙ ap (λ (n : ℕ). later n t.state t.payload.now) (states_are (goal.at.In_ok-allowed c).In_ok-table))

pub returns-in_err-table : goal.returns-in_err-table
returns-in_err-table c =
    let p = err_from_is_err_and c.from_residual.result c.from_residual.ensures.1 in
    let t = c.args in
    rw (p.1, p.2) (walk_refused t.table.now t.state t.payload.now t.room.now c.in_err-table.field-0.0 c.in_err-table.ensures.number)

pub returns-in_err-allowed : goal.returns-in_err-allowed
returns-in_err-allowed c =
    let p = err_from_is_err_and c.from_residual-in_err-allowed.result c.from_residual-in_err-allowed.ensures.1 in
    let t = c.args in
    rw (p.1, p.2)
    (walk_refused_later t.table.now t.state t.payload.now t.room.now c.in_err-allowed.field-0.0 c.in_ok-table.ensures.number
    (c.in_err-allowed.ensures ∙ ap (λ (n : ℕ). later n t.state t.payload.now) (states_are (goal.at.returns-in_err-allowed c).In_ok-table)))

pub returns-in-One : goal.returns-in-One
returns-in-One c = rw (done (goal.at.returns-in-One c).In_ok-allowed) (rw c.in_ok-table.ensures.same at c.walk_accepted.ensures)

pub returns-in-Two : goal.returns-in-Two
returns-in-Two c = rw (done (goal.at.returns-in-Two c).In_ok-allowed) (rw c.in_ok-table.ensures.same at c.walk_accepted-in-Two.ensures)
