-- Walk's number and answers: the table's grounds first, then 14, then 15.
use mathlib.Core.Path.{◌≡◌, refl, ◌∙◌}
use mathlib.Core.Bool.{true}
use mathlib.Core.List.{List}
use Prim.Native.Nat.{ℕ, ◌≤◌, ◌<◌}
use lib.ListN.{length}
use Rattle.paper.specs.Refusals.{first}
use Rattle.paper.specs.Table.{states, table_grounds}
use Rattle.paper.specs.Scan.{walk_of}
use Rattle.paper.specs.Operations.{judge_table_of, walk_grounds, scanning, walk}
use Rattle.paper.proofs.Refusals.{numbered}
use Rattle.paper.specs.Promises.{IsScanned}
use Rattle.answers.specs.Numbers.{number_of}
use Rattle.answers.specs.declared.Refusal.{Refusal}
use Rattle.running.proofs.Verdict.{later, later_none, verdict_judged, refused_first, refused_later, outcome_done, outcome_ran}

-- No ground of a table has the number 0.
pub table_numbered : (t : List ℕ) → numbered (table_grounds t) ≡ true
unfolding table_grounds
table_numbered t = refl

-- The table is refused.
pub walk_refused : (t : List ℕ) (s : ℕ) (payload room : List ℕ) (e : Refusal) → number_of e ≡ judge_table_of t → IsScanned (walk t s payload room) (number_of e) 0 0 0 0 room
unfolding walk walk_grounds judge_table_of
walk_refused t s payload room e q = refused_first (table_grounds t) (table_numbered t) (states t) s payload (walk_of t s payload (length room)) room e q

-- It is accepted, and 14 or 15 applies.
pub walk_refused_later : (t : List ℕ) (s : ℕ) (payload room : List ℕ) (e : Refusal) → 0 ≡ judge_table_of t → number_of e ≡ later (states t) s payload → IsScanned (walk t s payload room) (number_of e) 0 0 0 0 room
unfolding walk walk_grounds judge_table_of
walk_refused_later t s payload room e z q = refused_later (table_grounds t) (table_numbered t) (states t) s payload (walk_of t s payload (length room)) room e z q

-- Neither applies.
pub walk_ran : (t : List ℕ) (s : ℕ) (payload room : List ℕ) → 0 ≡ judge_table_of t → 0 ≡ later (states t) s payload → walk t s payload room ≡ scanning 0 (walk_of t s payload (length room)) room
unfolding walk walk_grounds judge_table_of
walk_ran t s payload room z q = outcome_ran (table_grounds t) (table_numbered t) (states t) s payload (walk_of t s payload (length room)) room z q

-- Where no ground applies walk answers the walk's numbers and leaves its reports in the room.
pub walk_done : (t : List ℕ) (s : ℕ) (payload room : List ℕ) → first (walk_grounds t s payload) ≡ 0
    → walk t s payload room ≡ scanning 0 (walk_of t s payload (length room)) room
unfolding walk walk_grounds
walk_done t s payload room = outcome_done (table_grounds t) (table_numbered t) (states t) s payload (walk_of t s payload (length room)) room

-- None applies to a payload that is not too long, from a state of an accepted table.
pub walk_clear : (t : List ℕ) (s : ℕ) (payload : List ℕ) → judge_table_of t ≡ 0 → s < states t → length payload ≤ 65536 → first (walk_grounds t s payload) ≡ 0
unfolding walk_grounds judge_table_of
walk_clear t s payload e h l = verdict_judged (table_grounds t) (table_numbered t) (states t) s payload e ∙ later_none (states t) s payload h l
