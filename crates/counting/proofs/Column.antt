-- A column of counts, one number counted after the other.
use mathlib.Core.Path.{◌≡◌, refl, ap}
use mathlib.Core.List.{List, [], ◌∷◌}
use Prim.Native.Nat.{ℕ, ◌+◌, ◌<◌}
use native.Mathlib.Decide.{ℕ_discrete}
use native.Mathlib.Omega.{arith}
use lib.ListN.{length, get_or, set}
use lib.Seq.{get_or-set_same, get_or-set_other}
use borrow.Author.Tests.{eq-eqb, ne_eqb}
use Rattle.paper.specs.Below.{bit}
use Rattle.paper.specs.Programs.{how_often}
use Rattle.counting.specs.Columns.{Column}
use Rattle.counting.proofs.HowOften.{how_often_le}

-- A column of zeros has counted nothing yet.
pub column_none : (counts whole : List ℕ) → ((x : ℕ) → get_or counts x 0 ≡ 0) → Column counts whole whole
column_none counts whole zeros x = omega (arith, zeros x)

module _ (counts left whole : List ℕ) (x : ℕ) (C : Column counts (x ∷ left) whole) where
  -- What is to be counted next is counted less often so far than the whole list is long.
  pub column_room : get_or counts x 0 < length whole
  column_room = omega (arith, C x, ap bit (eq-eqb x x refl), how_often_le x whole)

  -- One number more is counted.
  pub column_more : x < length counts → Column (set counts x (get_or counts x 0 + 1)) left whole
  column_more h y = go (ℕ_discrete y x)
    where
      go : Dec (y ≡ x) → get_or (set counts x (get_or counts x 0 + 1)) y 0 + how_often y left ≡ how_often y whole
      go (yes e) = rw e (omega (arith, get_or-set_same counts x (get_or counts x 0 + 1) 0 h, C x, ap bit (eq-eqb x x refl)))
      go (no n) = omega (arith, get_or-set_other counts x y (get_or counts x 0 + 1) 0 n, C y, ap bit (ne_eqb y x n))

-- With nothing left the column counts the whole list.
pub column_all : (counts whole : List ℕ) → Column counts [] whole → (x : ℕ) → get_or counts x 0 ≡ how_often x whole
column_all counts whole C x = omega (arith, C x)
