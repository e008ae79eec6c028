-- What reduce answers: refused on the table's ground, else what becomes of the reduced table and the room.
use mathlib.Core.Path.{◌≡◌, refl, ◌∙◌}
use mathlib.Core.List.{List, [], ◌∷◌}
use Prim.Native.Nat.{ℕ}
use lib.Dec.{ltb}
use lib.ListN.{length}
use Rattle.paper.specs.Refusals.{Ground, first}
use Rattle.paper.specs.Reduce.{reduced}
use Rattle.paper.specs.Operations.{judge_table_of, reduce_grounds, reduce}
use Rattle.paper.specs.Promises.{Reduces}
use Rattle.build.specs.Measured.{Fills}
use Rattle.build.proofs.Grounds.{refuses, table_refused, table_passed, fills_same}

-- Ground 16 alone.
abbrev room_ground : List ℕ → ℕ → List Ground
room_ground t room = (16, ltb room (length (reduced t))) ∷ []

-- A ground of the table is reduce's.
pub reduce_table : (t room : List ℕ) (number answered l : ℕ) → number ≡ judge_table_of t → ¬ (number ≡ 0) → answered ≡ number → l ≡ 0 → Reduces t room answered l room
unfolding reduce reduce_grounds
reduce_table t room number answered l e h q w =
    refuses (reduce_grounds t (length room)) (reduced t) room answered l (q ∙ table_refused t (room_ground t (length room)) number e h) (rw q h) w

-- Where none of the table's grounds applies, the room decides.
pub reduce_fills : (t room after : List ℕ) (number l : ℕ) → judge_table_of t ≡ 0 → Fills (reduced t) room number l after → Reduces t room number l after
unfolding reduce reduce_grounds
reduce_fills t room after number l e F =
    fills_same (reduced t) (reduced t) room after number l (first (reduce_grounds t (length room))) F refl (table_passed t (room_ground t (length room)) e)
