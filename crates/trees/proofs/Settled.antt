-- The forest after the pairs of the greater weights, where D is n - 1 or more: two states that weigh more lie in one tree, and each join of a weight trades a tree for it.
use mathlib.Core.Path.{◌≡◌, refl, ap, ◌∙◌}
use Prim.Native.Nat.{ℕ, zero, suc, ◌+◌, ◌*◌, ◌≤◌, ◌<◌}
use native.Mathlib.Nat.{mul-suc}
use native.Mathlib.Omega.{arith}
use native.Mathlib.Decide.{ℕ_discrete}
use Rattle.paper.specs.Forest.{Trees, singles, joined, weights_of}
use Rattle.paper.specs.BestPair.{JoinsBest}
use Rattle.paper.proofs.Join.{Mates}
use Rattle.paper.proofs.Bridge.{joined_bridge}
use Rattle.trees.proofs.Inside.{Inside, singles_inside, joined_inside}
use Rattle.trees.proofs.Named.{Named, singles_named, joined_named}
use Rattle.trees.proofs.Size.{Sized, singles_sized, joined_sized, joined_longest_below}
use Rattle.trees.proofs.TreeCount.{tree_count, tree_count_joined}

module _ (n : ℕ) (weight : ℕ → ℕ → ℕ) where
  -- Trees of the states below n in which any two states that weigh more than w lie in one tree.
  pub record Settled (w : ℕ) (F : Trees) : Type 0 where
    pub inside : Inside n F
    pub named : Named F
    pub sized : Sized n F
    pub mates : (x y : ℕ) → x < y → y < n → w < weight x y → Mates F x y

  -- Single states are such where no pair weighs more.
  pub singles_settled : (w : ℕ) → ((x y : ℕ) → weight x y ≤ w) → Settled w singles
  singles_settled w h =
      record { inside = singles_inside n; named = singles_named; sized = singles_sized n; mates = λ x y l b k. absurd (omega (arith, h x y)) }

  -- A pair joined keeps that.
  joined_settled : (w : ℕ) (F : Trees) (u v : ℕ) → ¬ Mates F u v → u < n → v < n → Settled w F → Settled w (joined F u v)
  joined_settled w F u v apart ub vb S =
      record {
        inside = joined_inside n F u v apart ub vb S.inside;
        named = joined_named F u v apart S.named;
        sized = joined_sized n F u v apart ub vb S.sized;
        mates = λ x y l b k. (joined_bridge F u v apart).keep x y (S.mates x y l b k);
      }

  -- The weights of the pairs added, and w for each tree.
  abbrev pub worth : ℕ → Trees → ℕ
  worth w F = weights_of weight F.added + w * tree_count n F

  -- A pair of weight w joined leaves them as they are.
  worth_joined : (w : ℕ) (F : Trees) (u v : ℕ) → weight u v ≡ w → tree_count n (joined F u v) + 1 ≡ tree_count n F → worth w (joined F u v) ≡ worth w F
  unfolding joined
  worth_joined w F u v e less =
      let one : tree_count n F ≡ suc (tree_count n (joined F u v)) = omega (arith, less) in
      omega (arith, e, ap (λ (c : ℕ). w * c) one, mul-suc w (tree_count n (joined F u v)))

  module _ (rest : Trees → ℕ × ℕ → ℕ) (D : ℕ) (large : n ≤ D + 1) where
    -- After the joins of weight w + 1 any two states that weigh more than w lie in one tree, and weights and trees are worth what they were.
    pub joins_settle : (w joins : ℕ) (F G : Trees) → JoinsBest n rest D weight (suc w) joins F G → Settled (suc w) F → Settled w G × (worth (suc w) G ≡ worth (suc w) F)
    joins_settle w zero F G (none, e) S = rw e (record { inside = S.inside; named = S.named; sized = S.sized; mates = meet }, refl)
      where
        meet : (x y : ℕ) → x < y → y < n → w < weight x y → Mates F x y
        meet x y l b k = go (ℕ_discrete (F.tree x) (F.tree y)) (ℕ_discrete (weight x y) (suc w))
          where
            go : Dec (Mates F x y) → Dec (weight x y ≡ suc w) → Mates F x y
            go (yes m) q = m
            go (no a) (yes q) =
                let short = joined_longest_below n F S.sized x y a (omega arith) b in
                absurd (none (x, y) (record { rising = l; inside = b; heavy = q }) (record { apart = a; short = omega (arith, short) }))
            go (no a) (no q) = S.mates x y l b (omega arith)
    joins_settle w (suc more) F G (q, B, J) S =
        let apart = B.viable.apart in
        let vb = B.weighs.inside in
        let (T, e) = joins_settle w more (joined F q.0 q.1) G J (joined_settled (suc w) F q.0 q.1 apart (omega (arith, B.weighs.rising)) vb S) in
        (T, e ∙ worth_joined (suc w) F q.0 q.1 B.weighs.heavy (tree_count_joined n F S.inside S.named q.0 q.1 apart vb))
