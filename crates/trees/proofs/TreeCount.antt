-- The number of trees: single states are as many, each join makes it smaller by one, and where there is a state there is a tree.
use mathlib.Core.Path.{◌≡◌, refl, sym, ◌∙◌, ap}
use mathlib.Core.Bool.{Bool}
use Prim.Native.Nat.{ℕ, ◌+◌, ◌≤◌, ◌<◌}
use native.Mathlib.Omega.{arith}
use native.Mathlib.Decide.{ℕ_discrete}
use lib.Dec.{eqb}
use borrow.Author.Tests.{eq-eqb, ne_eqb}
use Rattle.paper.specs.Below.{bit, how_many_of}
use Rattle.paper.specs.Forest.{Trees, singles, joined}
use Rattle.paper.proofs.Sums.{sum_same, sum_add}
use Rattle.paper.proofs.Counts.{count_all, count-found, pick_one}
use Rattle.paper.proofs.Join.{Mates, joined_tree_second, joined_tree_other}
use Rattle.trees.proofs.Inside.{Inside}
use Rattle.trees.proofs.Named.{Named}

-- The state is its tree's number.
abbrev pub own : Trees → ℕ → Bool
own F x = eqb (F.tree x) x

-- The number of trees of the states below n: of the states that are their trees' numbers.
abbrev pub tree_count : ℕ → Trees → ℕ
tree_count n F = how_many_of n (own F)

-- Single states are as many trees.
pub tree_count_singles : (n : ℕ) → tree_count n singles ≡ n
unfolding singles
tree_count_singles n = count_all n (own singles) (λ x l. eq-eqb x x refl)

module _ (n : ℕ) (F : Trees) (I : Inside n F) (N : Named F) where
  -- A state below n has a tree.
  pub tree_count_some : (x : ℕ) → x < n → 1 ≤ tree_count n F
  tree_count_some x l = count-found n (F.tree x) (own F) (I x (F.tree x) l (N x)) (eq-eqb (F.tree (F.tree x)) (F.tree x) (sym (N x)))

  module _ (u v : ℕ) (apart : ¬ Mates F u v) where
    -- The number of v's tree is none afterwards, all others stay, and no state becomes one.
    one_less : (x : ℕ) → bit (own (joined F u v) x) + bit (eqb (F.tree v) x) ≡ bit (own F x)
    one_less x = go (ℕ_discrete (F.tree v) x) (ℕ_discrete (F.tree v) (F.tree x))
      where
        go : Dec (F.tree v ≡ x) → Dec (Mates F v x) → bit (own (joined F u v) x) + bit (eqb (F.tree v) x) ≡ bit (own F x)
        go (yes e) m =
            let mate : Mates F v x = N v ∙ ap F.tree e in
            rw (
              joined_tree_second F u v x mate,
              ne_eqb (F.tree u) x (λ k. apart (k ∙ sym e)),
              eq-eqb (F.tree v) x e,
              eq-eqb (F.tree x) x (sym mate ∙ e),
            )
            refl
        go (no e) (yes m) =
            rw (
              joined_tree_second F u v x m,
              ne_eqb (F.tree u) x (λ k. apart (N u ∙ ap F.tree k ∙ sym m)),
              ne_eqb (F.tree v) x e,
              ne_eqb (F.tree x) x (λ k. e (m ∙ k)),
            )
            refl
        go (no e) (no m) = rw (joined_tree_other F u v x m, ne_eqb (F.tree v) x e) (omega arith)

    -- So a join leaves one tree less.
    pub tree_count_joined : v < n → tree_count n (joined F u v) + 1 ≡ tree_count n F
    tree_count_joined l =
        omega (
          arith,
          sum_add n (λ x. bit (own (joined F u v) x)) (λ x. bit (eqb (F.tree v) x)),
          sum_same n (λ x. bit (own (joined F u v) x) + bit (eqb (F.tree v) x)) (λ x. bit (own F x)) (λ x k. one_less x),
          pick_one n (F.tree v) (I v (F.tree v) l (N v)),
        )
