-- A room of which only one stretch was written.
use Rattle.std.specs.Prelude.{◌≡◌, List, ℕ, ◌≤◌, ◌<◌, length}
use Rattle.paper.specs.Words.{byte_at}

-- The room has the length that it had, and outside the stretch the bytes that it had.
pub record Kept (old room : List ℕ) (from to : ℕ) : Type 0 where
  pub long : length room ≡ length old
  pub before : (i : ℕ) → i < from → byte_at room i ≡ byte_at old i
  pub behind : (i : ℕ) → to ≤ i → byte_at room i ≡ byte_at old i
