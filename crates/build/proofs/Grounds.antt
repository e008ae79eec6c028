-- Refusals and results of the operations that build: on the table's grounds, on a later ground, on ground 16, or none.
use mathlib.Core.Path.{◌≡◌, refl, sym, ◌∙◌}
use mathlib.Core.List.{List, [], ◌∷◌, ◌++◌}
use Prim.Native.Nat.{ℕ, zero, suc, ◌≤◌, ◌<◌}
use native.Mathlib.Omega.{arith}
use lib.Dec.{ltb}
use lib.ListN.{length}
use borrow.Author.Tests.{lt-ltb, le-ltb}
use Rattle.paper.specs.Refusals.{Ground, first}
use Rattle.paper.specs.Table.{table_grounds}
use Rattle.paper.specs.Operations.{judge_table_of, building, filled}
use Rattle.paper.specs.Promises.{IsBuilt}
use Rattle.paper.proofs.Refusals.{past, first_append, first_clear}
use Rattle.paper.proofs.Refused.{refused, built}
use Rattle.facts.proofs.TableFacts.{accepted_table, table_clear}
use Rattle.table.proofs.Decided.{Decided}
use Rattle.build.specs.Measured.{Fills}

-- A refusal on the first ground that applies.
pub refuses : (gs : List Ground) (result room : List ℕ) (number l : ℕ) → number ≡ first gs → ¬ (number ≡ 0) → l ≡ 0 → IsBuilt (building (first gs) result room) number l room
refuses gs result room number l e n q = rw q (refused number (first gs) result room e n)

past_first : (a b : ℕ) → ¬ (a ≡ 0) → a ≡ past a b
past_first zero b n = absurd (n refl)
past_first (suc a) b n = refl

-- A table that is refused refuses the operation, whatever grounds come later.
pub table_refused : (t : List ℕ) (rest : List Ground) (number : ℕ) → number ≡ judge_table_of t → ¬ (number ≡ 0) → number ≡ first (table_grounds t ++ rest)
unfolding judge_table_of table_grounds
table_refused t rest number e n = e ∙ past_first (judge_table_of t) (first rest) (λ z. n (e ∙ z)) ∙ sym (first_append (table_grounds t) rest refl)

-- Where the table is accepted the later grounds decide.
pub table_passed : (t : List ℕ) (rest : List Ground) → judge_table_of t ≡ 0 → Decided (first (table_grounds t ++ rest)) rest
table_passed t rest e = record { decided = first_clear (table_grounds t) rest (table_clear t (accepted_table t e)) }

-- A room shorter than the result is refused on ground 16.
pub fills_refused : (result room : List ℕ) (number l : ℕ) → length room < length result → number ≡ 16 → l ≡ 0 → Fills result room number l room
fills_refused result room number l h e q =
    refuses ((16, ltb (length room) (length result)) ∷ []) result room number l (rw (lt-ltb (length room) (length result) h) e) (λ z. omega arith) q

-- Any other room is filled.
pub fills_built : (result room after : List ℕ) (l : ℕ) → length result ≤ length room → l ≡ length result → after ≡ filled result room → Fills result room 0 l after
fills_built result room after l h q r =
    built (first ((16, ltb (length room) (length result)) ∷ [])) result room after l (rw (le-ltb (length room) (length result) h)) q r

-- A result that fills a room, under the name that it has and on the grounds that are left.
pub fills_same : (a b room after : List ℕ) (number l g : ℕ) → Fills a room number l after → a ≡ b → Decided g ((16, ltb (length room) (length b)) ∷ [])
    → IsBuilt (building g b room) number l after
fills_same a b room after number l g F e D = rw D.decided (rw (← e) F)
