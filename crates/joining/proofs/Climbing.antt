-- A climb over parents that lead to r: after k steps from x it stands at a state k steps nearer to r.
use mathlib.Core.Path.{◌≡◌, ◌∙◌, ap}
use mathlib.Core.List.{List}
use Prim.Native.Nat.{ℕ, ◌+◌, ◌≤◌}
use native.Mathlib.Omega.{arith}
use lib.ListN.{get_or}
use Rattle.paper.specs.Forest.{Trees}
use Rattle.paper.proofs.Join.{Mates}
use Rattle.trees.proofs.Metric.{Nearer}
use Rattle.joining.specs.Rooted.{Rooted, Climbed}

-- In trees whose parents lead to r, the climb from x stands after k steps at a state that is k steps nearer to r.
abbrev pub Climbing : List ℕ → ℕ → ℕ → ℕ → ℕ → Type 0
Climbing parent x r at k =
    (F : Trees) → Rooted F parent r → Mates F r x → (Mates F r at) × (k + F.distance at r ≡ F.distance x r)

module _ (parent : List ℕ) (x r : ℕ) where
  -- It starts at x.
  pub climbing_starts : Climbing parent x r x 0
  climbing_starts F R m = (m, omega arith)

  module _ (at k : ℕ) (climbing : Climbing parent x r at k) where
    -- Where it is not at r, it goes on to the parent.
    pub climbing_goes : ¬ (at ≡ r) → Climbing parent x r (get_or parent at 0) (k + 1)
    climbing_goes ne F R m =
        let (on, path) = climbing F R m in
        let N : Nearer F at r (get_or parent at 0) = R.up at on ne in
        (on ∙ N.mate, omega (arith, N.less))

    -- At r it has counted the distance.
    pub climbing_stops : (most : ℕ) → at ≡ r → Climbed parent x r most k
    climbing_stops most e F M R m near =
        omega (arith, (climbing F R m).1, M.self r, ap (λ (y : ℕ). F.distance y r) e)

    -- After as many steps as there can be it has counted it too.
    pub climbing_ends : (most : ℕ) → most ≤ k → Climbed parent x r most k
    climbing_ends most enough F M R m near = omega (arith, (climbing F R m).1)
