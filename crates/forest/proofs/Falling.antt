-- The forest depends on the weights of the pairs of states below n only.
use mathlib.Core.Path.{◌≡◌, refl}
use mathlib.Core.Bool.{cond, ◌&&◌}
use mathlib.Core.List.{[], ◌∷◌}
use Prim.Native.Nat.{ℕ, zero, suc, ◌<◌}
use native.Mathlib.Omega.{arith}
use native.Mathlib.Decide.{dec_lt}
use lib.Dec.{ltb, eqb}
use borrow.Author.Tests.{le-ltb}
use Rattle.paper.specs.Below.{each}
use Rattle.paper.specs.Forest.{Trees, pairs, falling}
use Rattle.paper.proofs.Below.{each_same}

module _ (n : ℕ) (f g : ℕ → ℕ → ℕ) (same : (u v : ℕ) → u < v → v < n → f u v ≡ g u v) where
  -- The pairs of each weight are the same.
  pairs_same : (w : ℕ) → pairs n f w ≡ pairs n g w
  unfolding pairs
  pairs_same w =
      each_same n (λ u. each n (λ v. cond (ltb u v && eqb (f u v) w) ((u, v) ∷ []) [])) (λ u. each n (λ v. cond (ltb u v && eqb (g u v) w) ((u, v) ∷ []) []))
      (λ u ub.
      each_same n (λ v. cond (ltb u v && eqb (f u v) w) ((u, v) ∷ []) []) (λ v. cond (ltb u v && eqb (g u v) w) ((u, v) ∷ []) [])
      (λ v vb. elim (dec_lt u v) [ yes l ↦ rw (same u v l vb) | no l ↦ rw (le-ltb u v (omega arith)) ]))

  -- So is what they make of the trees.
  pub falling_same : (rest : Trees → ℕ × ℕ → ℕ) (D w : ℕ) (F : Trees) → falling n rest D f w F ≡ falling n rest D g w F
  falling_same rest D zero F = refl
  falling_same rest D (suc w) F = rw (pairs_same (suc w)) (falling_same rest D w _)
