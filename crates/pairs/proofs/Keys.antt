-- The number by which an order goes among pairs of equal weight, as it is computed and as it is defined.
use mathlib.Core.Path.{◌≡◌, refl, sym}
use mathlib.Core.Bool.{true}
use mathlib.Core.List.{List}
use Prim.Native.Nat.{ℕ, zero, suc, ◌+◌, ◌≤◌, ◌<◌}
use native.Mathlib.Omega.{arith}
use lib.ListN.{get_or}
use Rattle.paper.specs.Forest.{Trees, d, longest, rest}
use Rattle.pairs.specs.Taken.{is_taken}
use Rattle.pairs.specs.Keys.{key_of, key_in}
use Rattle.pairs.proofs.Taken.{taken_short}

-- No key is above the path over its pair.
pub key_small : (order du dv lu lv : ℕ) → key_of order du dv lu lv ≤ du + dv + 1
key_small zero du dv lu lv = omega arith
key_small (suc zero) du dv lu lv = omega arith
key_small (suc (suc order)) du dv lu lv = omega arith

-- The key of the numbers that a pair has is what the order goes by.
pub key_rest : (order n : ℕ) (F : Trees) (u v : ℕ) → key_of order (d n F u) (d n F v) (longest n F u) (longest n F v) ≡ rest order n F (u, v)
key_rest zero n F u v = refl
key_rest (suc zero) n F u v = refl
key_rest (suc (suc order)) n F u v = refl

-- Over a pair that fits the path keeps to D.
pub fits_short : (weight : ℕ → ℕ → ℕ) (w D : ℕ) (far tree : List ℕ) (u v : ℕ)
    → is_taken (weight u v) w (get_or tree u 0) (get_or tree v 0) (get_or far u 0) (get_or far v 0) D ≡ true → get_or far u 0 + get_or far v 0 + 1 ≤ D
fits_short weight w D far tree u v f = taken_short (weight u v) w (get_or tree u 0) (get_or tree v 0) (get_or far u 0) (get_or far v 0) D true (sym f) refl

-- So its key is below 65536, as D is.
pub fits_small : (weight : ℕ → ℕ → ℕ) (w order D : ℕ) (far tree long : List ℕ) → D < 65536 → (u v : ℕ)
    → is_taken (weight u v) w (get_or tree u 0) (get_or tree v 0) (get_or far u 0) (get_or far v 0) D ≡ true → key_in order far long u v < 65536
fits_small weight w order D far tree long bound u v f =
    omega (arith, bound, fits_short weight w D far tree u v f, key_small order (get_or far u 0) (get_or far v 0) (get_or long u 0) (get_or long v 0))
