-- Stored entries, plus defaults, plus the weights of the pairs added, equal n times k.
use mathlib.Core.Path.{◌≡◌, refl, sym, ap, ◌∙◌}
use mathlib.Core.Logic.{inl, inr}
use mathlib.Core.List.{List}
use mathlib.Core.Option.{Option, none, some}
use Prim.Native.Nat.{ℕ, ◌+◌, ◌-◌, ◌*◌, ◌≤◌, ◌<◌}
use native.Mathlib.Omega.{arith}
use native.Mathlib.Decide.{ℕ_discrete}
use lib.Dec.{eqb}
use lib.ListN.{length}
use borrow.Author.Tests.{eq-eqb, ne_eqb}
use Rattle.paper.specs.Below.{sum, how_many_of, bit, given}
use Rattle.paper.specs.Table.{states, classes, next, shared}
use Rattle.paper.specs.Results.{stored_entries}
use Rattle.paper.specs.Forest.{Trees, weight, singles, joined, weights_of, lean, forest, toward_root}
use Rattle.paper.proofs.Sums.{sum_same, sum_add, sum_constant}
use Rattle.paper.proofs.Counts.{count_same}
use Rattle.trees.proofs.Points.{points_to_some}
use Rattle.trees.proofs.Greedy.{Keeps, forest_keeps}
use Rattle.trees.proofs.Grown.{Grown, singles_grown, added_grown}
use Rattle.trees.proofs.Edges.{Neighbours, joined-neighbours_other}
use Rattle.trees.proofs.EdgeSums.{around_sum, around-singles, around-joined}
use Rattle.trees.proofs.StateEntries.{stored-root, stored-shared}
use Rattle.trees.proofs.FallSums.{default_value, fall_sum, around-falls}

-- Two numbers are equal either way round.
equal_turned : (a b : ℕ) → eqb a b ≡ eqb b a
equal_turned a b =
    elim (ℕ_discrete a b) [
      | yes e ↦ eq-eqb a b e ∙ sym (eq-eqb b a (sym e))
      | no n ↦ ne_eqb a b n ∙ sym (ne_eqb b a (λ e. n (sym e)))
    ]

module _ (t : List ℕ) where
  -- The weight of a pair is the same from both states.
  pub weight_turned : (u v : ℕ) → weight t u v ≡ weight t v u
  unfolding weight
  weight_turned u v =
      ap (λ (x : ℕ). x - 1) (count_same (classes t) (λ c. eqb (next t u c) (next t v c)) (λ c. eqb (next t v c) (next t u c)) (λ c h. equal_turned (next t u c) (next t v c)))

  module _ (order D : ℕ) where
    -- Grown trees in which neighbours have weight, and whose neighbours weigh twice what the pairs added do.
    record Weighed (F : Trees) : Type 0 where
      grown : Grown (states t) D F
      heavy : (x y : ℕ) → Neighbours F x y → 1 ≤ weight t x y
      twice : around_sum (states t) (weight t) F ≡ 2 * weights_of (weight t) F.added

    -- Single states are such.
    singles_weighed : Weighed singles
    unfolding singles
    singles_weighed =
        record {
          grown = singles_grown (states t) D;
          heavy = λ x y N. absurd (omega (arith, N.1));
          twice = around-singles (states t) (weight t);
        }

    -- One pair more.
    twice_more : (F : Trees) (u v : ℕ) → around_sum (states t) (weight t) F ≡ 2 * weights_of (weight t) F.added
        → around_sum (states t) (weight t) F + 2 * weight t u v ≡ 2 * weights_of (weight t) (joined F u v).added
    unfolding joined
    twice_more F u v e = omega (arith, e)

    -- Each pair added keeps that.
    added_weighed : Keeps (states t) D (weight t) Weighed
    added_weighed F u v W A =
        let M = W.grown.metric in
        let ub : u < states t = omega (arith, A.rising, A.inside) in
        record {
          grown = added_grown (states t) D (weight t) F u v W.grown A;
          heavy = λ x y N. elim (joined-neighbours_other F u v A.apart M x y N) [
            | inl k ↦ W.heavy x y k
            | inr c ↦ elim c [
              | inl q ↦ rw (q.0, q.1) A.heavy
              | inr q ↦ rw (q.0, q.1, weight_turned v u) A.heavy
            ]
          ];
          twice = around-joined (states t) (weight t) weight_turned F u v A.apart M ub A.inside ∙ twice_more F u v W.twice;
        }

    -- So the forest is such.
    forest_weighed : Weighed (forest t order D)
    forest_weighed = forest_keeps t order D Weighed added_weighed singles_weighed

    -- The weights of the states with their defaults are those of the pairs added.
    falls_added : fall_sum (states t) (weight t) (toward_root t order D) ≡ weights_of (weight t) (forest t order D).added
    unfolding toward_root
    falls_added =
        let W = forest_weighed in
        let n = states t in
        omega (arith, W.twice, around-falls n (weight t) weight_turned (lean n) (forest t order D) W.grown.metric W.grown.inside)

    -- A default shares classes with its state, so there is a weight.
    default_heavy : (s d : ℕ) → toward_root t order D s ≡ some d → 1 ≤ weight t s d
    unfolding toward_root
    default_heavy s d e =
        let (_, N) = points_to_some (states t) (lean (states t)) (forest t order D) s d e in
        forest_weighed.heavy s d (N.mate, N.step)

    -- It shares two classes or more with it.
    pub default_shares : (s d : ℕ) → toward_root t order D s ≡ some d → 2 ≤ shared t s d
    unfolding weight
    default_shares s d e = omega (arith, default_heavy s d e)

    -- What a state stores, whether it has a default, and the weight of the two make k.
    state_sum : (s : ℕ) → length (stored_entries t (toward_root t order D) s) + (bit (given (toward_root t order D s)) + default_value (toward_root t order D s) (weight t s)) ≡ classes t
    unfolding weight
    state_sum s = go (toward_root t order D s) refl
      where
        go : (o : Option ℕ) → toward_root t order D s ≡ o → length (stored_entries t (toward_root t order D) s) + (bit (given o) + default_value o (weight t s)) ≡ classes t
        go none q = omega (arith, stored-root t (toward_root t order D) s q)
        go (some d) q = omega (arith, stored-shared t (toward_root t order D) s d q, default_heavy s d q)

-- Stored entries, plus defaults, plus the weights of the pairs added, equal n times k.
pub entries-sum : (t : List ℕ) (order D : ℕ)
    → sum (states t) (λ s. length (stored_entries t (toward_root t order D) s)) + (how_many_of (states t) (λ s. given (toward_root t order D s)) + weights_of (weight t) (forest t order D).added) ≡ states t * classes t
entries-sum t order D =
    let n = states t in
    let f = toward_root t order D in
    let stored : ℕ → ℕ = λ s. length (stored_entries t f s) in
    let used : ℕ → ℕ = λ s. bit (given (f s)) in
    let weighs : ℕ → ℕ = λ s. default_value (f s) (weight t s) in
    let all : sum n (λ s. stored s + (used s + weighs s)) ≡ n * classes t = sum_same n (λ s. stored s + (used s + weighs s)) (λ s. classes t) (λ s h. state_sum t order D s) ∙ sum_constant n (classes t) in
    omega (arith, all, sum_add n stored (λ s. used s + weighs s), sum_add n used weighs, falls_added t order D)
