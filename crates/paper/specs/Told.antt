-- What a walk tells: its reports where there is room for all of them, and when two tables tell the same.
use Rattle.std.specs.Prelude.{◌≡◌, List, ℕ, ◌*◌, ◌≤◌, length}
use Rattle.paper.specs.Words.{Bytes}
use Rattle.paper.specs.Scan.{Run, walk_of}

-- The walk with room for every report: 16 for each byte, 6 bytes each.
abbrev pub whole_walk : List ℕ → ℕ → List ℕ → Run
whole_walk t s payload = walk_of t s payload (6 * (16 * length payload))

-- Two states, each of a table, give the same reports for every payload that a walk takes.
abbrev pub SameReports : List ℕ → ℕ → List ℕ → ℕ → Type 0
SameReports t s u r = (payload : List ℕ) → Bytes payload → length payload ≤ 65536 → (whole_walk t s payload).written ≡ (whole_walk u r payload).written

-- Two walks take as many bytes and give the same reports; their states may have other numbers.
pub record SameTold (r r' : Run) : Type 0 where
  pub taken_same : r.taken ≡ r'.taken
  pub reports_same : r.reports ≡ r'.reports
  pub written_same : r.written ≡ r'.written
