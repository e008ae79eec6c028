-- What a scan owes the plain table: the state and the reports of the table's walk after every byte, and no stop before a byte whose report has room.
use Rattle.std.specs.Prelude.{◌≡◌, List, ℕ, ◌+◌, ◌/◌, ◌≤◌, ◌<◌, length, take}
use Rattle.paper.specs.Words.{byte_at, Bytes}
use Rattle.paper.specs.Table.{labels}
use Rattle.paper.specs.Walk.{next_on, state_after, reports_after, written_after}
use Rattle.paper.specs.Operations.{Scanned, filled, scan}

-- A scan has taken just these bytes, is in the state of the table's walk over them, and its reports are the walk's, at the beginning of the room.
pub record Follows (t : List ℕ) (s : ℕ) (xs room : List ℕ) (o : Scanned) : Type 0 where
  pub number_is : o.number ≡ 0
  pub taken_is : o.taken ≡ length xs
  pub state_is : o.state ≡ state_after (next_on t) s xs
  pub reports_are : o.reports ≡ reports_after (next_on t) (labels t) s xs
  pub room_is : o.room ≡ filled (written_after (next_on t) (labels t) 0 s xs) room

-- A scan takes no more than the payload and reports no more than the room holds, and where it leaves bytes, the report of the first of them has no room.
pub record Stops (t payload room : List ℕ) (o : Scanned) : Type 0 where
  pub in_payload : o.taken ≤ length payload
  pub in_room : o.reports ≤ length room / 6
  pub no_room : o.taken < length payload → length room / 6 < o.reports + length (labels t (next_on t o.state (byte_at payload o.taken)))

-- Every scan of an image that is accepted goes as the plain table says: over the bytes that it took, over every beginning of them, and to where it stops.
pub record ScansLike (t b : List ℕ) : Type 0 where
  pub follows : (s : ℕ) (payload room : List ℕ) → Bytes payload → (scan b s payload room).number ≡ 0
      → Follows t s (take (scan b s payload room).taken payload) room (scan b s payload room)
  pub at_every_byte : (s : ℕ) (payload room : List ℕ) → Bytes payload → (scan b s payload room).number ≡ 0 → (i : ℕ) → i ≤ (scan b s payload room).taken
      → Follows t s (take i payload) room (scan b s (take i payload) room)
  pub stops : (s : ℕ) (payload room : List ℕ) → Bytes payload → (scan b s payload room).number ≡ 0 → Stops t payload room (scan b s payload room)
