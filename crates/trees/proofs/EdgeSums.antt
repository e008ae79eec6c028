-- Sums over neighbours: twice the weights of the pairs added.
use mathlib.Core.Path.{◌≡◌, refl, sym, ap, ap₂, ◌∙◌}
use mathlib.Core.Bool.{Bool, true, false, cond, ◌&&◌, true≢false}
use mathlib.Core.Logic.{inl, inr}
use Prim.Native.Nat.{ℕ, ◌+◌, ◌*◌, ◌<◌}
use native.Mathlib.Omega.{arith}
use native.Mathlib.Decide.{ℕ_discrete}
use lib.Dec.{eqb}
use borrow.Author.Tests.{eq-eqb, ne_eqb}
use Rattle.paper.specs.Below.{sum}
use Rattle.paper.specs.Forest.{Trees, singles, joined}
use Rattle.paper.proofs.Below.{bool_false}
use Rattle.paper.proofs.Tests.{holds_and, holds_equal}
use Rattle.paper.proofs.Sums.{sum_same, sum_add, sum_zero}
use Rattle.paper.proofs.Counts.{pick_value}
use Rattle.paper.proofs.Join.{Mates}
use Rattle.paper.proofs.Bridge.{joined_bridge}
use Rattle.trees.proofs.Metric.{Metric}
use Rattle.trees.proofs.Edges.{Neighbours, joined-neighbours, joined-neighbours_other}

-- A value where the test passes, else 0.
abbrev pub value_if : Bool → ℕ → ℕ
value_if b m = cond b m 0

-- Two states are neighbours, as a test.
abbrev pub neighbours : Trees → ℕ → ℕ → Bool
neighbours F x y = eqb (F.tree x) (F.tree y) && eqb (F.distance x y) 1

-- The weights of all neighbours, each pair of them counted both ways.
abbrev pub around_sum : ℕ → (ℕ → ℕ → ℕ) → Trees → ℕ
around_sum n w F = sum n (λ x. sum n (λ y. value_if (neighbours F x y) (w x y)))

-- The test says it.
pub neighbours_hold : (F : Trees) (x y : ℕ) → neighbours F x y ≡ true → Neighbours F x y
neighbours_hold F x y e = (holds_and (eqb (F.tree x) (F.tree y)) (eqb (F.distance x y) 1) (holds_equal _ _) (holds_equal _ _)).0 e

pub neighbours_true : (F : Trees) (x y : ℕ) → Neighbours F x y → neighbours F x y ≡ true
neighbours_true F x y N = rw (eq-eqb (F.tree x) (F.tree y) N.0, eq-eqb (F.distance x y) 1 N.1)

neighbours_false : (F : Trees) (x y : ℕ) → ¬ Neighbours F x y → neighbours F x y ≡ false
neighbours_false F x y n = bool_false (neighbours F x y) (λ e. n (neighbours_hold F x y e))

-- Single states have no neighbours.
pub around-singles : (n : ℕ) (w : ℕ → ℕ → ℕ) → around_sum n w singles ≡ 0
unfolding singles
around-singles n w = sum_zero n _ (λ x hx. sum_zero n _ (λ y hy. ap (λ (b : Bool). value_if b (w x y)) (neighbours_false singles x y (λ N. absurd (omega (arith, N.1))))))

-- A value at one place of a row, where the row is the one.
pick_row : (n b m : ℕ) (row : Bool) → b < n → sum n (λ y. value_if row (value_if (eqb b y) m)) ≡ value_if row m
pick_row n b m true hb = pick_value n b m hb
pick_row n b m false hb = sum_zero n (λ y. 0) (λ y l. refl)

module _ (n : ℕ) (w : ℕ → ℕ → ℕ) (symmetric : (x y : ℕ) → w x y ≡ w y x) where
  -- The weights of the neighbours of one state.
  abbrev around_one_of : Trees → ℕ → ℕ
  around_one_of F x = sum n (λ y. value_if (neighbours F x y) (w x y))

  -- A join makes the pair neighbours, and no others: each end of the pair gets its weight.
  pub around_one : (F : Trees) (u v : ℕ) → ¬ Mates F u v → Metric F → u < n → v < n → (x : ℕ)
      → around_one_of (joined F u v) x ≡ around_one_of F x + (value_if (eqb u x) (w u v) + value_if (eqb v x) (w u v))
  around_one F u v apart M ub vb x =
      sum_same n _ _ (λ y hy. cell x y)
      ∙ sum_add n (old x) (λ y. there x y + back x y)
      ∙ ap (λ (r : ℕ). sum n (old x) + r) (sum_add n (there x) (back x) ∙ ap₂ ◌+◌ (pick_row n v (w u v) (eqb u x) vb) (pick_row n u (w u v) (eqb v x) ub))
    where
      old : ℕ → ℕ → ℕ
      old x y = value_if (neighbours F x y) (w x y)

      there : ℕ → ℕ → ℕ
      there x y = value_if (eqb u x) (value_if (eqb v y) (w u v))

      back : ℕ → ℕ → ℕ
      back x y = value_if (eqb v x) (value_if (eqb u y) (w u v))

      G : Trees
      G = joined F u v

      differ-ends : ¬ (u ≡ v)
      differ-ends e = apart (ap F.tree e)

      -- The pair itself, and the other way round.
      pair : value_if (neighbours (joined F u v) u v) (w u v) ≡ old u v + (there u v + back u v)
      pair =
          rw (
            neighbours_true (joined F u v) u v (joined-neighbours F u v apart M),
            neighbours_false F u v (λ N. apart N.0),
            eq-eqb u u refl,
            eq-eqb v v refl,
            ne_eqb v u (λ e. differ-ends (sym e)),
          )
          (omega arith)

      turn : Neighbours (joined F u v) v u
      turn =
          let B = joined_bridge F u v apart in
          (sym (B.meet u v refl refl), omega (arith, B.back v u refl refl, M.self u, M.self v))

      round : value_if (neighbours (joined F u v) v u) (w v u) ≡ old v u + (there v u + back v u)
      round =
          rw (
            neighbours_true (joined F u v) v u turn,
            neighbours_false F v u (λ N. apart (sym N.0)),
            eq-eqb u u refl,
            eq-eqb v v refl,
            ne_eqb u v differ-ends,
            symmetric v u,
          )
          (omega arith)

      -- A value at another place.
      elsewhere : (a b x y m : ℕ) → ¬ ((x ≡ a) × (y ≡ b)) → value_if (eqb a x) (value_if (eqb b y) m) ≡ 0
      elsewhere a b x y m n =
          elim (ℕ_discrete a x) [
            | yes e ↦ rw (eq-eqb a x e, ne_eqb b y (λ q. n (sym e, sym q)))
            | no ne ↦ rw (ne_eqb a x ne)
          ]

      other : (x y : ℕ) → ¬ ((x ≡ u) × (y ≡ v)) → ¬ ((x ≡ v) × (y ≡ u)) → neighbours (joined F u v) x y ≡ neighbours F x y
      other x y n m = go (neighbours F x y) refl
        where
          go : (b : Bool) → neighbours F x y ≡ b → neighbours (joined F u v) x y ≡ b
          go true e =
              let N = neighbours_hold F x y e in
              let B = joined_bridge F u v apart in
              neighbours_true (joined F u v) x y (B.keep x y N.0, B.same x y N.0 ∙ N.1)
          go false e =
              neighbours_false (joined F u v) x y (λ N. elim (joined-neighbours_other F u v apart M x y N) [
                | inl k ↦ true≢false (sym (neighbours_true F x y k) ∙ e)
                | inr c ↦ elim c [ inl q ↦ n q | inr q ↦ m q ]
              ])

      cell : (x y : ℕ) → value_if (neighbours (joined F u v) x y) (w x y) ≡ old x y + (there x y + back x y)
      cell x y = at (ℕ_discrete x u) (ℕ_discrete y v) (ℕ_discrete x v) (ℕ_discrete y u)
        where
          apart_cell : ¬ ((x ≡ u) × (y ≡ v)) → ¬ ((x ≡ v) × (y ≡ u)) → value_if (neighbours (joined F u v) x y) (w x y) ≡ old x y + (there x y + back x y)
          apart_cell n m = rw (other x y n m, elsewhere u v x y (w u v) n, elsewhere v u x y (w u v) m) (omega arith)

          at : Dec (x ≡ u) → Dec (y ≡ v) → Dec (x ≡ v) → Dec (y ≡ u) → value_if (neighbours (joined F u v) x y) (w x y) ≡ old x y + (there x y + back x y)
          at (yes a) (yes b) c d = rw (a, b) pair
          at (yes a) (no b) (yes c) d = absurd (differ-ends (sym a ∙ c))
          at (yes a) (no b) (no c) d = apart_cell (λ q. b q.1) (λ q. c q.0)
          at (no a) b (yes c) (yes d) = rw (c, d) round
          at (no a) b (yes c) (no d) = apart_cell (λ q. a q.0) (λ q. d q.1)
          at (no a) b (no c) d = apart_cell (λ q. a q.0) (λ q. c q.0)

  -- So twice its weight comes to the sum over all.
  pub around-joined : (F : Trees) (u v : ℕ) → ¬ Mates F u v → Metric F → u < n → v < n → around_sum n w (joined F u v) ≡ around_sum n w F + 2 * w u v
  around-joined F u v apart M ub vb =
      sum_same n _ _ (λ x hx. around_one F u v apart M ub vb x)
      ∙ sum_add n (around_one_of F) (λ x. value_if (eqb u x) (w u v) + value_if (eqb v x) (w u v))
      ∙ ap (λ (r : ℕ). around_sum n w F + r) (sum_add n (λ x. value_if (eqb u x) (w u v)) (λ x. value_if (eqb v x) (w u v)) ∙ ap₂ ◌+◌ (pick_value n u (w u v) ub) (pick_value n v (w u v) vb))
      ∙ omega arith
