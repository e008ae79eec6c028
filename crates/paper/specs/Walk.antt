-- The plain walk: from a state over bytes by a next state for each state and byte, as a plain table gives it. It knows of no room and no hops.
use Rattle.std.specs.Prelude.{List, [], ◌∷◌, ◌++◌, ℕ, ◌+◌, length}
use Rattle.paper.specs.Table.{class_of, next}
use Rattle.paper.specs.Scan.{report_bytes}

-- The next state of a plain table on a byte.
abbrev pub next_on : List ℕ → ℕ → ℕ → ℕ
next_on t s x = next t s (class_of t x)

module _ (to : ℕ → ℕ → ℕ) where
  -- The state that the walk has come to.
  abbrev pub state_after : ℕ → List ℕ → ℕ
  state_after s [] = s
  state_after s (x ∷ xs) = state_after (to s x) xs

  module _ (labels : ℕ → List ℕ) where
    -- The reports of the states that it went to.
    abbrev pub reports_after : ℕ → List ℕ → ℕ
    reports_after s [] = 0
    reports_after s (x ∷ xs) = length (labels (to s x)) + reports_after (to s x) xs

    -- The bytes of these reports, for the offset of the first byte.
    abbrev pub written_after : ℕ → ℕ → List ℕ → List ℕ
    written_after offset s [] = []
    written_after offset s (x ∷ xs) = report_bytes offset (labels (to s x)) ++ written_after (offset + 1) (to s x) xs
