-- The chains of defaults that point to the roots: each ends at the root after as many steps as the root is far.
use mathlib.Core.Path.{◌≡◌, sym, ◌∙◌, ap}
use mathlib.Core.Option.{Option, some}
use Prim.Native.Nat.{ℕ, zero, suc, ◌+◌, ◌/◌, ◌≤◌, ◌<◌}
use native.Mathlib.Omega.{arith}
use native.Mathlib.Decide.{ℕ_discrete}
use Rattle.paper.specs.Below.{largest, or}
use Rattle.paper.specs.View.{View, longer, chain, depth_of}
use Rattle.paper.specs.Forest.{Trees, longest, root, points_to}
use Rattle.paper.proofs.Below.{largest_upper, largest_least}
use Rattle.paper.proofs.Join.{Mates}
use Rattle.trees.proofs.Metric.{Metric}
use Rattle.trees.proofs.Inside.{Inside}
use Rattle.trees.proofs.Size.{Sized, distance_below}
use Rattle.trees.proofs.Roots.{root_of, root_mate}
use Rattle.trees.proofs.Radius.{root_distance, root_distance_attained}
use Rattle.trees.proofs.Points.{points_to-root, points_to_other}

module _ (n : ℕ) (lean : Trees → ℕ → ℕ) (F : Trees) (M : Metric F) (I : Inside n F) (S : Sized n F)
    (v : View) (same : (x : ℕ) → x < n → v.default x ≡ points_to n lean F x) where
  -- Where there are steps enough, the chain of a state ends at its root after as many steps as the root is far.
  chain-ends : (left x : ℕ) → x < n → F.distance x (root n lean F x) < left → chain v left x ≡ some (F.distance x (root n lean F x))
  chain-ends zero x l h = elim h [ ]
  chain-ends (suc left) x l h =
      elim (ℕ_discrete x (root n lean F x)) [
        | yes e ↦ rw (same x l, points_to-root n lean F M I x l e) (ap some (sym (ap (F.distance x) (sym e) ∙ M.self x)))
        | no ne ↦
            let (y, e, N) = points_to_other n lean F M I x l ne in
            let yb = I x y l N.mate in
            let r : root n lean F x ≡ root n lean F y = root_mate n lean F x y yb N.mate in
            let s : suc (F.distance y (root n lean F y)) ≡ F.distance x (root n lean F x) = omega (arith, ap (F.distance y) r, N.less) in
            rw (same x l, e) (ap longer (chain-ends left y yb (omega arith)) ∙ ap some s)
      ]

  -- There are enough: the chain of each state has as many steps as its root is far.
  pub chain_distance : (x : ℕ) → x < n → chain v n x ≡ some (F.distance x (root n lean F x))
  chain_distance x l = chain-ends n x l (distance_below n F S x _ l (root_of n lean F x l).mate)

  -- No chain of a tree is longer than the tree's longest path halved and rounded up.
  pub chain_upper : (x : ℕ) → x < n → or (chain v n x) 0 ≤ (longest n F x + 1) / 2
  chain_upper x l = rw (chain_distance x l) (root_distance n lean F M I x l)

  -- Some chain of the tree is so long.
  pub chain_attained : (x : ℕ) → x < n → (y : ℕ) × (y < n) × (Mates F x y) × (chain v n y ≡ some ((longest n F x + 1) / 2))
  chain_attained x l =
      let (y, yb, h, e) = root_distance_attained n lean F M I x l in
      (y, yb, h, chain_distance y yb ∙ ap some e)

-- The depth of a view whose defaults point to the roots is the largest half of a longest path, rounded up.
pub depth-longest : (v : View) (lean : Trees → ℕ → ℕ) (F : Trees) → Metric F → Inside v.states F → Sized v.states F
    → ((x : ℕ) → x < v.states → v.default x ≡ points_to v.states lean F x)
    → depth_of v ≡ largest v.states (λ x. (longest v.states F x + 1) / 2)
unfolding depth_of
depth-longest v lean F M I S same =
    let n = v.states in
    let half : ℕ → ℕ = λ x. (longest n F x + 1) / 2 in
    let steps : ℕ → ℕ = λ x. or (chain v n x) 0 in
    let most : largest n steps ≤ largest n half =
    largest_least n _ steps (λ x l. omega (arith, chain_upper n lean F M I S v same x l, largest_upper n x half l)) in
    let least : largest n half ≤ largest n steps =
    largest_least n _ half (λ x l.
    let (y, yb, h, e) = chain_attained n lean F M I S v same x l in
    omega (arith, largest_upper n y steps yb, ap (λ (o : Option ℕ). or o 0) e)) in
    omega arith
