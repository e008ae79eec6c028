-- The weights of all pairs written into an array, 512 places to a first state.
use mathlib.Core.Path.{◌≡◌}
use mathlib.Core.List.{List}
use Prim.Native.Nat.{ℕ, ◌+◌, ◌*◌, ◌≤◌, ◌<◌}
use native.Mathlib.Omega.{arith}
use native.Mathlib.Decide.{ℕ_discrete, dec_lt}
use lib.ListN.{length, set}
use lib.Seq.{get_or-set_same, get_or-set_other}
use Rattle.paper.specs.Forest.{weight}
use Rattle.weights.specs.Weighed.{Weighed}

module _ (t : List ℕ) (n : ℕ) (few : n ≤ 512) (weights : List ℕ) where
  -- At the start no pair is weighed.
  pub weighed_starts : Weighed t n weights (0 * 512)
  weighed_starts u v uv vb l = absurd (omega arith)

  -- No pair stands between the beginning of a first state's places and the pair with the state after it.
  pub weighed_skips : (u : ℕ) → Weighed t n weights (u * 512) → Weighed t n weights (u * 512 + (u + 1))
  weighed_skips u W x y xy yb l =
      W x y xy yb (elim (dec_lt x u) [ yes h ↦ omega arith | no h ↦ absurd (omega arith) ])

  -- No pair stands between the last of a first state's and the next first state's places.
  pub weighed_ends : (u : ℕ) → Weighed t n weights (u * 512 + n) → Weighed t n weights ((u + 1) * 512)
  weighed_ends u W x y xy yb l = W x y xy yb (elim (dec_lt x u) [ yes h ↦ omega arith | no h ↦ omega arith ])

  -- One pair more is weighed.
  pub weighed_more : (u v a : ℕ) → v < n → u * 512 + v < length weights → a ≡ weight t u v → Weighed t n weights (u * 512 + v)
      → Weighed t n (set weights (u * 512 + v) a) (u * 512 + (v + 1))
  weighed_more u v a vb long e W x y xy yb l =
      elim (ℕ_discrete (x * 512 + y) (u * 512 + v)) [
        | yes q ↦
            let xu : x ≡ u = omega arith in
            let yv : y ≡ v = omega arith in
            rw (xu, yv, get_or-set_same weights (u * 512 + v) a 0 long) e
        | no ne ↦ rw (get_or-set_other weights (u * 512 + v) (x * 512 + y) a 0 ne) (W x y xy yb (omega arith))
      ]
