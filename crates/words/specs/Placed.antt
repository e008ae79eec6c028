-- Bytes placed in a room.
use Rattle.std.specs.Prelude.{ℕ, ◌+◌, List, ◌++◌, length, take, drop}

-- The room with bytes placed from `at` on, the rest as it was.
unfoldable pub placed : List ℕ → ℕ → List ℕ → List ℕ
placed room at bs = take at room ++ (bs ++ drop (at + length bs) room)
