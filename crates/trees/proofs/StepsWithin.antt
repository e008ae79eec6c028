-- Steps that stay in their trees and do not return: each tree has a state without one, so trees and steps are together no more than the states.
use mathlib.Core.Path.{◌≡◌, refl, ap, ◌∙◌}
use mathlib.Core.Bool.{Bool, true, false, not}
use Prim.Native.Nat.{ℕ, zero, suc, ◌+◌, ◌≤◌, ◌<◌}
use native.Mathlib.Nat.{not-suc-le-zero}
use native.Mathlib.Omega.{arith}
use borrow.Author.Tests.{eqb-true}
use Rattle.paper.specs.Below.{how_many_of}
use Rattle.paper.specs.Forest.{Trees}
use Rattle.paper.proofs.Counts.{count_both}
use Rattle.paper.proofs.Join.{Mates}
use Rattle.trees.proofs.Onto.{count_onto}
use Rattle.trees.proofs.TreeCount.{own, tree_count}

-- Of the states below n those that pass the test have a step, each to a state of its tree; a rank falls with each.
abbrev pub StepsWithin : ℕ → Trees → (ℕ → Bool) → (ℕ → ℕ) → (ℕ → ℕ) → Type 0
StepsWithin n F steps to rank = (x : ℕ) → x < n → steps x ≡ true → (to x < n) × (rank (to x) < rank x) × Mates F (to x) x

module _ (n : ℕ) (F : Trees) (steps : ℕ → Bool) (to rank : ℕ → ℕ) (within : StepsWithin n F steps to rank) where
  -- From each state the steps come to one of its tree that has none.
  steps_last : (left x : ℕ) → x < n → rank x < left → (e : ℕ) × (e < n) × (not (steps e) ≡ true) × Mates F e x
  steps_last zero x l b = absurd (not-suc-le-zero b)
  steps_last (suc left) x l b = go (steps x) refl (steps_last left)
    where
      go : (s : Bool) → steps x ≡ s → ((y : ℕ) → y < n → rank y < left → (e : ℕ) × (e < n) × (not (steps e) ≡ true) × Mates F e y)
          → (e : ℕ) × (e < n) × (not (steps e) ≡ true) × Mates F e x
      go true q ih =
          let (k, lower, mate) = within x l q in
          let (e, h, free, m) = ih (to x) k (omega arith) in
          (e, h, free, m ∙ mate)
      go false q ih = (x, l, ap not q, refl)

  -- So there are no more trees than states without a step.
  pub trees_and_steps : tree_count n F + how_many_of n steps ≤ n
  trees_and_steps =
      omega (
        arith,
        count_both n steps,
        count_onto n n (own F) (λ x. not (steps x)) F.tree (λ r l e.
            let (x, h, free, m) = steps_last (suc (rank r)) r l (omega arith) in
            (x, h, free, m ∙ eqb-true (F.tree r) r e)),
      )
