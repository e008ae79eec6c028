-- The largest of a number over the states of one tree.
use mathlib.Core.Path.{◌≡◌, refl, sym, ◌∙◌}
use mathlib.Core.Bool.{cond}
use mathlib.Core.Logic.{inl, inr}
use Prim.Native.Nat.{ℕ, ◌≤◌, ◌<◌}
use native.Mathlib.Omega.{arith}
use native.Mathlib.Decide.{ℕ_discrete}
use lib.Dec.{eqb}
use borrow.Author.Tests.{eq-eqb, ne_eqb}
use Rattle.paper.specs.Below.{largest}
use Rattle.paper.specs.Forest.{Trees}
use Rattle.paper.proofs.Below.{largest_upper, largest_least, largest_met, largest_same}
use Rattle.paper.proofs.Join.{Mates}

-- The number of y where y is in x's tree, and 0 elsewhere.
abbrev pub in_tree : Trees → ℕ → (ℕ → ℕ) → ℕ → ℕ
in_tree F x f y = cond (eqb (F.tree x) (F.tree y)) (f y) 0

-- The largest number of a state below n of x's tree.
abbrev pub largest_in : ℕ → Trees → ℕ → (ℕ → ℕ) → ℕ
largest_in n F x f = largest n (in_tree F x f)

module _ (F : Trees) (x : ℕ) (f : ℕ → ℕ) where
  -- In the tree it is the number.
  in_tree_mate : (y : ℕ) → Mates F x y → in_tree F x f y ≡ f y
  in_tree_mate y h = rw (eq-eqb (F.tree x) (F.tree y) h)

  -- Elsewhere it is 0.
  in_tree_other : (y : ℕ) → ¬ Mates F x y → in_tree F x f y ≡ 0
  in_tree_other y h = rw (ne_eqb (F.tree x) (F.tree y) h)

  -- No state of the tree has a larger one.
  pub largest_in_upper : (n y : ℕ) → y < n → Mates F x y → f y ≤ largest_in n F x f
  largest_in_upper n y l h = omega (arith, largest_upper n y (in_tree F x f) l, in_tree_mate y h)

  -- It is not above what no state of the tree is above.
  pub largest_in_least : (n m : ℕ) → ((y : ℕ) → y < n → Mates F x y → f y ≤ m) → largest_in n F x f ≤ m
  largest_in_least n m h =
      largest_least n m (in_tree F x f) (λ y l.
      elim (ℕ_discrete (F.tree x) (F.tree y)) [
        | yes e ↦ omega (arith, in_tree_mate y e, h y l e)
        | no e ↦ omega (arith, in_tree_other y e)
      ])

  -- Some state of the tree has it.
  pub largest_in_attained : (n : ℕ) → x < n → (y : ℕ) × (y < n) × (Mates F x y) × (f y ≡ largest_in n F x f)
  largest_in_attained n l =
      elim (largest_met n (in_tree F x f)) [
        | inl z ↦ none z
        | inr t ↦ elim (ℕ_discrete (F.tree x) (F.tree t.0)) [
          | yes e ↦ (t.0, t.1, e, sym (in_tree_mate t.0 e) ∙ t.2)
          | no e ↦ none (sym t.2 ∙ in_tree_other t.0 e)
        ]
      ]
    where
      none : largest_in n F x f ≡ 0 → (y : ℕ) × (y < n) × (Mates F x y) × (f y ≡ largest_in n F x f)
      none z = (x, l, refl, omega (arith, largest_in_upper n x l refl))

-- Two trees with the same states and the same numbers have the same largest.
pub largest_in_same : (n : ℕ) (F G : Trees) (x y : ℕ) (f g : ℕ → ℕ)
    → ((z : ℕ) → z < n → Mates F x z → (Mates G y z) × (f z ≡ g z)) → ((z : ℕ) → z < n → Mates G y z → Mates F x z)
    → largest_in n F x f ≡ largest_in n G y g
largest_in_same n F G x y f g to from =
    largest_same n (in_tree F x f) (in_tree G y g) (λ z l.
    elim (ℕ_discrete (F.tree x) (F.tree z)) [
      | yes e ↦ in_tree_mate F x f z e ∙ (to z l e).1 ∙ sym (in_tree_mate G y g z (to z l e).0)
      | no e ↦ in_tree_other F x f z e ∙ sym (in_tree_other G y g z (λ h. e (from z l h)))
    ])
