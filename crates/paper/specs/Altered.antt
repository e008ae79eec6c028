-- One byte altered.
use Rattle.std.specs.Prelude.{◌≡◌, ◌≢◌, List, ℕ, ◌<◌, length}
use Rattle.paper.specs.Words.{byte_at}

-- Two lists of one length with different bytes at one place and the same bytes at every other.
pub record Altered (b b' : List ℕ) : Type 0 where
  pub place : ℕ
  pub inside : place < length b
  pub length_kept : length b' ≡ length b
  pub different : byte_at b place ≢ byte_at b' place
  pub elsewhere : (j : ℕ) → j ≢ place → byte_at b j ≡ byte_at b' j
