-- Whether a pair is added, by what the arrays say of it.
use Rattle.std.specs.Prelude.{Bool, ◌&&◌, ℕ, ◌+◌, leb, eqb}
use Rattle.paper.specs.Below.{differ}

-- A pair of weight x is added among those of weight w: its ends lie in different trees, and the path over it is at most D.
abbrev pub is_taken : ℕ → ℕ → ℕ → ℕ → ℕ → ℕ → ℕ → Bool
is_taken x w tu tv du dv D = eqb x w && (differ tu tv && leb (du + dv + 1) D)
