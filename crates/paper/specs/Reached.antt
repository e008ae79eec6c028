-- How far a state of a plain table is from the start state, by the payloads that lead to it.
use Rattle.std.specs.Prelude.{◌≡◌, List, ℕ, ◌≤◌, length}
use Rattle.paper.specs.Words.{Bytes}
use Rattle.paper.specs.Table.{start}
use Rattle.paper.specs.Walk.{next_on, state_after}

-- A payload leads from the start state to x.
pub record LeadsTo (t : List ℕ) (x : ℕ) (payload : List ℕ) : Type 0 where
  pub bytes : Bytes payload
  pub comes_to : state_after (next_on t) (start t) payload ≡ x

-- The fewest bytes from the start state to x are so many: some payload of that length leads to x, and no shorter one does.
pub record HasLevel (t : List ℕ) (x level : ℕ) : Type 0 where
  pub payload : List ℕ
  pub leads : LeadsTo t x payload
  pub length_is : length payload ≡ level
  pub fewest : (p : List ℕ) → LeadsTo t x p → level ≤ length p
