-- What holds at the start and is kept by each pair added holds of the forest.
use mathlib.Core.Path.{◌≡◌, refl}
use mathlib.Core.Bool.{Bool, true, false, cond, ◌&&◌}
use mathlib.Core.List.{List, [], ◌∷◌}
use Prim.Native.Nat.{ℕ, zero, suc, ◌-◌, ◌≤◌, ◌<◌}
use native.Mathlib.Omega.{arith}
use lib.Dec.{leb}
use lib.ListN.{length}
use borrow.Author.Tests.{eqb-false, leb-true, not-true}
use Rattle.paper.specs.Below.{differ}
use Rattle.paper.specs.Paths.{Among}
use Rattle.paper.specs.Table.{states, classes}
use Rattle.paper.specs.Forest.{Trees, weight, singles, joined, joined_longest, added_or_dropped, pairs, without, next_pair, taken, falling, rest, forest}
use Rattle.paper.specs.BestPair.{Weighs}
use Rattle.paper.proofs.Below.{and_true}
use Rattle.paper.proofs.Join.{Mates}
use Rattle.trees.proofs.Pairs.{next_pair_among, without_among, pairs_weigh}

-- The pair of u and v is added to F: it has a weight, its ends lie in different trees, and the joined tree's longest path is at most D.
pub record Added (n D : ℕ) (weight : ℕ → ℕ → ℕ) (F : Trees) (u v : ℕ) : Type 0 where
  pub rising : u < v
  pub inside : v < n
  pub heavy : 1 ≤ weight u v
  pub apart : ¬ Mates F u v
  pub short : joined_longest n F u v ≤ D

-- Each pair added keeps P.
abbrev pub Keeps : ℕ → ℕ → (ℕ → ℕ → ℕ) → (Trees → Type 0) → Type 0
Keeps n D weight P = (F : Trees) (u v : ℕ) → P F → Added n D weight F u v → P (joined F u v)

module _ (n D : ℕ) (weight : ℕ → ℕ → ℕ) (P : Trees → Type 0) (kept : Keeps n D weight P) where
  -- One pair added or dropped.
  one_keeps : (w : ℕ) (F : Trees) (p : ℕ × ℕ) → 1 ≤ w → Weighs n weight w p → P F → P (added_or_dropped n D F p)
  unfolding added_or_dropped
  one_keeps w F p l W h = go (apart && short) refl
    where
      apart : Bool
      apart = differ (F.tree p.0) (F.tree p.1)

      short : Bool
      short = leb (joined_longest n F p.0 p.1) D

      go : (b : Bool) → apart && short ≡ b → P (cond b (joined F p.0 p.1) F)
      go false e = h
      go true e =
          let (a, s) = and_true apart short e in
          kept F p.0 p.1 h (record {
            rising = W.rising;
            inside = W.inside;
            heavy = omega (arith, W.heavy);
            apart = eqb-false _ _ (not-true _ a);
            short = leb-true _ _ s;
          })

  -- The pairs of one weight taken one by one.
  taken_keeps : (rest : Trees → ℕ × ℕ → ℕ) (w left : ℕ) (F : Trees) (ps : List (ℕ × ℕ)) → 1 ≤ w
      → ((p : ℕ × ℕ) → Among p ps → Weighs n weight w p) → P F → P (taken n rest D left F ps)
  taken_keeps rest w zero F ps l W h = h
  taken_keeps rest w (suc left) F [] l W h = h
  taken_keeps rest w (suc left) F (p ∷ ps) l W h =
      let q = next_pair n rest F p ps in
      taken_keeps rest w left (added_or_dropped n D F q) (without q (p ∷ ps)) l
      (λ r a. W r (without_among q r (p ∷ ps) a)) (one_keeps w F q l (W q (next_pair_among n rest F p ps)) h)

  -- What holds of F and is kept by each pair added holds after the pairs of weight w and below.
  pub falling_keeps : (rest : Trees → ℕ × ℕ → ℕ) (w : ℕ) (F : Trees) → P F → P (falling n rest D weight w F)
  falling_keeps rest zero F h = h
  falling_keeps rest (suc w) F h =
      let ps = pairs n weight (suc w) in
      falling_keeps rest w (taken n rest D (length ps) F ps)
      (taken_keeps rest (suc w) (length ps) F ps (omega arith) (pairs_weigh n weight (suc w)) h)

-- What holds of single states and is kept by each pair added holds of the forest of a table, in any order.
pub forest_keeps : (t : List ℕ) (order D : ℕ) (P : Trees → Type 0) → Keeps (states t) D (weight t) P → P singles → P (forest t order D)
unfolding forest
forest_keeps t order D P kept h = falling_keeps (states t) D (weight t) P kept (rest order (states t)) (classes t - 1) singles h
