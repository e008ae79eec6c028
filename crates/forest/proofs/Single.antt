-- The arrays that the build starts with hold single states.
use mathlib.Core.Path.{◌≡◌, refl, sym}
use mathlib.Core.List.{List}
use Prim.Native.Nat.{ℕ, ◌<◌}
use native.Mathlib.Omega.{arith}
use lib.ListN.{get_or}
use Rattle.paper.specs.Forest.{singles}
use Rattle.trees.proofs.Farthest.{d_least}
use Rattle.trees.proofs.Grown.{singles_grown}
use Rattle.forest.specs.Single.{Own, Single}

-- Distances 0, and each state its own parent and its own tree.
pub alone : (far own : List ℕ) → ((x : ℕ) → x < 512 → get_or far x 0 ≡ 0) → Own own 512 → Single far own own
unfolding singles
alone far own zeros itself =
    record {
      low = λ x l. omega (arith, itself x l);
      good = λ n D few. record {
        grown = singles_grown n D;
        held = record {
          numbers = λ x xb. itself x (omega arith);
          farthest = λ x xb. omega (arith, zeros x (omega arith), d_least n singles x 0 (λ y yb m. omega arith));
          roots = λ x xb. (x, refl, record { own = itself x (omega arith); up = λ y m ne. absurd (ne (sym m)) });
        };
      };
    }
