-- What reduce leaves, and walks of two tables that tell the same.
use mathlib.Core.Path.{◌≡◌, refl, ap, ◌∙◌}
use mathlib.Core.List.{List, [], ◌∷◌}
use Prim.Native.Nat.{ℕ, zero, suc, ◌<◌}
use lib.Dec.{ltb}
use lib.ListN.{length}
use borrow.Author.Tests.{lt-leb}
use Rattle.paper.specs.Refusals.{first}
use Rattle.paper.specs.Table.{states, table_grounds}
use Rattle.paper.specs.Scan.{walk_of}
use Rattle.paper.specs.Told.{SameTold}
use Rattle.paper.specs.Reduce.{reduced}
use Rattle.paper.specs.Operations.{judge_table_of, result, filled, reduce_grounds, reduce, Scanned, scanning, run_grounds, walk_grounds, walk}
use Rattle.paper.proofs.Refusals.{first_clear}
use Rattle.facts.proofs.TableFacts.{AcceptedTable, table_clear}
use Rattle.trips.proofs.Building.{built-result, first_both}

-- What reduce accepts is an accepted table, and leaves it reduced.
pub reduce_leaves : (t room : List ℕ) → (reduce t room).number ≡ 0 → (judge_table_of t ≡ 0) × (result (reduce t room) ≡ reduced t)
unfolding reduce reduce_grounds judge_table_of table_grounds
reduce_leaves t room e =
    let (z, w) = built-result (first (reduce_grounds t (length room))) (reduced t) room e in
    ((first_both (table_grounds t) ((16, ltb (length room) (length (reduced t))) ∷ []) refl z).0, w)

-- Two outcomes of walks tell the same: the number, the bytes taken, the reports, and every byte of the room.
abbrev pub TellSame : Scanned → Scanned → Type 0
TellSame o p = (o.number ≡ p.number) × (o.taken ≡ p.taken) × (o.reports ≡ p.reports) × (o.room ≡ p.room)

-- Of an accepted table and one of its states only a long payload is refused.
walk_is : (t : List ℕ) (s : ℕ) (payload room : List ℕ) → AcceptedTable t → s < states t
    → walk t s payload room ≡ scanning (first ((15, ltb 65536 (length payload)) ∷ [])) (walk_of t s payload (length room)) room
unfolding walk walk_grounds
walk_is t s payload room A h = ap (λ (g : ℕ). scanning g (walk_of t s payload (length room)) room) number
  where
    number : first (walk_grounds t s payload) ≡ first ((15, ltb 65536 (length payload)) ∷ [])
    number = first_clear (table_grounds t) (run_grounds (states t) s payload) (table_clear t A) ∙ rw (lt-leb (states t) s h) refl

-- Walks that tell the same give such outcomes, with every room, refusals included.
pub walks_tell : (t u : List ℕ) (s r : ℕ) (payload room : List ℕ) → AcceptedTable t → AcceptedTable u → s < states t → r < states u
    → SameTold (walk_of t s payload (length room)) (walk_of u r payload (length room)) → TellSame (walk t s payload room) (walk u r payload room)
walks_tell t u s r payload room A A' hs hr S =
    rw (walk_is t s payload room A hs, walk_is u r payload room A' hr) (go (first ((15, ltb 65536 (length payload)) ∷ [])))
  where
    go : (g : ℕ) → TellSame (scanning g (walk_of t s payload (length room)) room) (scanning g (walk_of u r payload (length room)) room)
    go zero = (refl, S.taken_same, S.reports_same, ap (λ (l : List ℕ). filled l room) S.written_same)
    go (suc g) = (refl, refl, refl, refl)
