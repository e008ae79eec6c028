-- What each operation can be handed: lent bytes, and numbers of so many bits.
use Rattle.std.specs.Prelude.{List, ℕ, ◌<◌}
use Rattle.paper.specs.Words.{Bytes}

-- To judge: bytes.
pub record ToJudge : Type 0 where
  pub given : List ℕ
  pub given_bytes : Bytes given

-- To compact: a table, an order of 32 bits, a bound of 16 bits and a room.
pub record ToCompact : Type 0 where
  pub table : List ℕ
  pub order : ℕ
  pub bound : ℕ
  pub room : List ℕ
  pub table_bytes : Bytes table
  pub order_small : order < 4294967296
  pub bound_small : bound < 65536
  pub room_bytes : Bytes room

-- To write: a table, a list of defaults and a room.
pub record ToWrite : Type 0 where
  pub table : List ℕ
  pub defaults : List ℕ
  pub room : List ℕ
  pub table_bytes : Bytes table
  pub defaults_bytes : Bytes defaults
  pub room_bytes : Bytes room

-- To expand, to move or to rewrite: an image and a room.
pub record ToConvert : Type 0 where
  pub image : List ℕ
  pub room : List ℕ
  pub image_bytes : Bytes image
  pub room_bytes : Bytes room

-- To scan or to walk: rules, which are an image or a table, a state of 32 bits, a payload and a room.
pub record ToRun : Type 0 where
  pub rules : List ℕ
  pub state : ℕ
  pub payload : List ℕ
  pub room : List ℕ
  pub rules_bytes : Bytes rules
  pub state_small : state < 4294967296
  pub payload_bytes : Bytes payload
  pub room_bytes : Bytes room
