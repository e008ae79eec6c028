-- What must be known of a patch before its parts are read.
use Rattle.std.specs.Prelude.{◌≡◌, List, ℕ, ◌≤◌, ◌<◌, ◌^◌, length, get_or}
use Rattle.paper.specs.Below.{sum}
use Rattle.paper.specs.Patch.{listed_states, entries, count, entry_at, patch_length}

-- The patch x lists p states, from 1 to 64, has q entries, and has the length that these give.
pub record Shaped (x : List ℕ) (p q : ℕ) : Type 0 where
  pub listed_are : p ≡ listed_states x
  pub entries_are : q ≡ entries x
  pub some : 1 ≤ p
  pub few : p ≤ 64
  pub long : length x ≡ patch_length p q
  pub small : length x < 2 ^ 32

-- Its records count its entries, none more than 256.
pub record Counts (x : List ℕ) (p q : ℕ) : Type 0 where
  pub shaped : Shaped x p q
  pub counted : sum p (count x) ≡ q
  pub none_above : (i : ℕ) → i < p → count x i ≤ 256

-- The list says where the entries of each listed state begin, and where the last end.
abbrev pub PatchBegins : List ℕ → ℕ → List ℕ → Type 0
PatchBegins x p begins = (i : ℕ) → i ≤ p → get_or begins i 0 ≡ entry_at x i 0
