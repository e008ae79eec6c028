-- A row filled for its first so many classes.
use mathlib.Core.Path.{◌≡◌}
use mathlib.Core.Bool.{cond}
use mathlib.Core.List.{List}
use Prim.Native.Nat.{ℕ, ◌+◌, ◌*◌, ◌≤◌, ◌<◌}
use lib.Dec.{eqb}
use lib.ListN.{get_or}

-- The first c places of the row of s are filled from the row of l; everything else is as it was.
pub record Part (rows rows' : List ℕ) (s l c : ℕ) : Type 0 where
  pub filled : (x : ℕ) → x < c → get_or rows' (s * 256 + x) 0 ≡ cond (eqb (get_or rows (s * 256 + x) 0) 0) (get_or rows (l * 256 + x) 0) (get_or rows (s * 256 + x) 0)
  pub rest : (x : ℕ) → c ≤ x → x < 256 → get_or rows' (s * 256 + x) 0 ≡ get_or rows (s * 256 + x) 0
  pub others : (q x : ℕ) → x < 256 → ¬ (q ≡ s) → get_or rows' (q * 256 + x) 0 ≡ get_or rows (q * 256 + x) 0
