-- Where D is n - 1 or more the pairs of the forest weigh no less than the defaults of any list whose chains end.
use mathlib.Core.Path.{◌≡◌, refl, sym, ap}
use mathlib.Core.List.{List}
use mathlib.Core.Option.{Option, none, some}
use Prim.Native.Nat.{ℕ, zero, suc, ◌+◌, ◌-◌, ◌*◌, ◌≤◌, ◌<◌}
use native.Mathlib.Omega.{arith}
use native.Mathlib.Decide.{dec_lt, ℕ_discrete}
use lib.Dec.{ltb, eqb}
use borrow.Author.Tests.{ltb-true}
use Rattle.paper.specs.Below.{or}
use Rattle.paper.specs.Table.{states, classes, next}
use Rattle.paper.specs.Forest.{Trees, weight, singles, weights_of, rest, forest}
use Rattle.paper.specs.BestPair.{JoinsAll}
use Rattle.paper.proofs.Join.{Mates}
use Rattle.paper.proofs.Counts.{count_le}
use Rattle.trees.proofs.TreeCount.{tree_count_singles}
use Rattle.trees.proofs.StepsWithin.{StepsWithin, trees_and_steps}
use Rattle.trees.proofs.Best.{falling_joins}
use Rattle.trees.proofs.FallSums.{default_value, fall_sum}
use Rattle.trees.proofs.LayerSums.{layers, layers_sum}
use Rattle.trees.proofs.Settled.{Settled, singles_settled, worth, joins_settle}
use Rattle.trees.proofs.EntriesSum.{weight_turned}

-- A list of defaults that stays below n and along which a rank falls.
abbrev pub Falls : ℕ → (ℕ → Option ℕ) → (ℕ → ℕ) → Type 0
Falls n f rank = (s d : ℕ) → s < n → f s ≡ some d → (d < n) × (rank d < rank s)

module _ (n : ℕ) (weight : ℕ → ℕ → ℕ) (turned : (x y : ℕ) → weight x y ≡ weight y x) (f : ℕ → Option ℕ) (rank : ℕ → ℕ) (falls : Falls n f rank) where
  -- The weight of a state and its default, 0 without one.
  abbrev share : ℕ → ℕ
  share x = default_value (f x) (weight x)

  -- Two states of which the weight is more than w lie in one tree, whichever is the smaller.
  settled_mates : (w : ℕ) (F : Trees) → Settled n weight w F → (x y : ℕ) → x < n → y < n → w < weight x y → Mates F y x
  settled_mates w F S x y xb yb h = go (dec_lt x y) (ℕ_discrete x y)
    where
      go : Dec (x < y) → Dec (x ≡ y) → Mates F y x
      go (yes l) e = sym (S.mates x y l yb h)
      go (no l) (yes e) = ap F.tree (sym e)
      go (no l) (no e) = S.mates y x (omega arith) xb (omega (arith, turned x y))

  -- So the defaults that weigh more than w are steps that stay in their trees.
  heavy_within : (w : ℕ) (F : Trees) → Settled n weight w F → StepsWithin n F (λ x. ltb w (share x)) (λ x. or (f x) x) rank
  heavy_within w F S x l e = go (f x) refl (ltb-true w (share x) e)
    where
      go : (o : Option ℕ) → f x ≡ o → w < default_value o (weight x) → (or o x < n) × (rank (or o x) < rank x) × Mates F (or o x) x
      go none q h = absurd (omega arith)
      go (some d) q h = let (b, lower) = falls x d l q in (b, lower, settled_mates w F S x d l b h)

  module _ (rest : Trees → ℕ × ℕ → ℕ) (D : ℕ) (large : n ≤ D + 1) where
    -- The pairs joined from w down outweigh the defaults in the layers up to w: of each layer no more defaults stay in the trees than there are pairs.
    joins_outweigh : (w : ℕ) (F G : Trees) → JoinsAll n rest D weight w F G → Settled n weight w F → worth n weight w F + layers n w share ≤ weights_of weight G.added + w * n
    joins_outweigh zero F G e S = rw e (omega arith)
    joins_outweigh (suc w) F G (H, (joins, J), more) S =
        let (T, e) = joins_settle n weight rest D large w joins F H J S in
        omega (
          arith,
          e,
          joins_outweigh w H G more T,
          trees_and_steps n H (λ x. ltb w (share x)) (λ x. or (f x) x) rank (heavy_within w H T),
        )

module _ (t : List ℕ) where
  -- No pair weighs more than k - 1.
  weight_le : (x y : ℕ) → weight t x y ≤ classes t - 1
  unfolding weight
  weight_le x y = omega (arith, count_le (classes t) (λ c. eqb (next t x c) (next t y c)))

  module _ (order D : ℕ) (large : states t ≤ D + 1) (f : ℕ → Option ℕ) (rank : ℕ → ℕ) (falls : Falls (states t) f rank) where
    -- The pairs added outweigh the defaults of any such list.
    pub forest_outweighs : fall_sum (states t) (weight t) f ≤ weights_of (weight t) (forest t order D).added
    unfolding forest singles
    forest_outweighs =
        let n = states t in
        let k = classes t - 1 in
        let w = weight t in
        let J = falling_joins n (rest order n) D w k singles in
        omega (
          arith,
          joins_outweigh n w (weight_turned t) f rank falls (rest order n) D large k singles (forest t order D) J (singles_settled n w k weight_le),
          ap (λ (c : ℕ). k * c) (tree_count_singles n),
          layers_sum n k (λ x. default_value (f x) (w x)) (λ x l. bound x (f x)),
        )
      where
        bound : (x : ℕ) (o : Option ℕ) → default_value o (weight t x) ≤ classes t - 1
        bound x none = omega arith
        bound x (some d) = weight_le x d
