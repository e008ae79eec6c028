-- Where the entries of each state stand, in the bytes that have them.
use Rattle.std.specs.Prelude.{◌≡◌, List, ℕ, ◌+◌, ◌*◌, ◌≤◌, ◌<◌, length, get_or}
use Rattle.paper.specs.Words.{number16}
use Rattle.paper.specs.Image.{states}
use Rattle.paper.specs.Patch.{patched_view}
use Rattle.overlaid.specs.Chosen.{bytes_of}

-- The entries of a state stand at a place of some bytes, so many of them.
pub record PlacedRow (b x : List ℕ) (s at left : ℕ) : Type 0 where
  pub count_is : left ≡ (patched_view b x).count s
  pub inside : at + 4 * left ≤ length (bytes_of b x s)
  pub small : length (bytes_of b x s) < 600000
  pub reads_class : (j : ℕ) → j < left → number16 (bytes_of b x s) (at + 4 * j) ≡ (patched_view b x).entry_class s j
  pub reads-next : (j : ℕ) → j < left → number16 (bytes_of b x s) (at + 4 * j + 2) ≡ (patched_view b x).entry_next s j

-- So it is for all states.
abbrev pub PlacedRows : List ℕ → List ℕ → List ℕ → List ℕ → Type 0
PlacedRows b x place left = (s : ℕ) → s < states b → PlacedRow b x s (get_or place s 0) (get_or left s 0)
