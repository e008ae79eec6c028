-- The bound at its ends: 0 gives no defaults, and n - 1 or more binds nothing.
use mathlib.Core.Path.{◌≡◌, refl, ap, ◌∙◌}
use mathlib.Core.Bool.{Bool, true, false, cond, ◌&&◌}
use mathlib.Core.List.{List, [], ◌∷◌}
use mathlib.Core.Option.{none}
use Prim.Native.Nat.{ℕ, zero, suc, ◌+◌, ◌-◌, ◌≤◌, ◌<◌}
use native.Mathlib.Omega.{arith}
use native.Mathlib.Decide.{ℕ_discrete}
use lib.Dec.{leb, eqb}
use lib.ListN.{length}
use borrow.Author.Tests.{lt-leb, le-leb, eq-eqb}
use Rattle.paper.specs.Below.{differ}
use Rattle.paper.specs.Paths.{Among}
use Rattle.paper.specs.Table.{states, classes}
use Rattle.paper.specs.Forest.{Trees, weight, singles, joined, joined_longest, added_or_dropped, pairs, next_pair, without, taken, falling, rest, lean, root, nearer, points_to, forest, toward_root}
use Rattle.paper.specs.BestPair.{Weighs}
use Rattle.paper.proofs.Below.{and_true, first_of_none}
use Rattle.paper.proofs.Tests.{holds_differ}
use Rattle.trees.proofs.Pairs.{next_pair_among, without_among, pairs_weigh}
use Rattle.trees.proofs.Size.{Sized, singles_sized, joined_sized, joined_longest_below}

-- A second test that fails.
and_false : (a b : Bool) → b ≡ false → a && b ≡ false
and_false true b e = e
and_false false b e = refl

-- With the bound 0 no pair is added.
added_zero : (n : ℕ) (F : Trees) (p : ℕ × ℕ) → added_or_dropped n 0 F p ≡ F
unfolding added_or_dropped joined_longest
added_zero n F p =
    ap (λ (b : Bool). cond b (joined F p.0 p.1) F)
    (and_false (differ (F.tree p.0) (F.tree p.1)) (leb (joined_longest n F p.0 p.1) 0) (lt-leb (joined_longest n F p.0 p.1) 0 (omega arith)))

taken_zero : (n : ℕ) (rest : Trees → ℕ × ℕ → ℕ) (left : ℕ) (F : Trees) (ps : List (ℕ × ℕ)) → taken n rest 0 left F ps ≡ F
taken_zero n rest zero F ps = refl
taken_zero n rest (suc left) F [] = refl
taken_zero n rest (suc left) F (p ∷ ps) =
    let q = next_pair n rest F p ps in
    taken_zero n rest left (added_or_dropped n 0 F q) (without q (p ∷ ps)) ∙ added_zero n F q

falling_zero : (n : ℕ) (rest : Trees → ℕ × ℕ → ℕ) (weight : ℕ → ℕ → ℕ) (w : ℕ) (F : Trees) → falling n rest 0 weight w F ≡ F
falling_zero n rest weight zero F = refl
falling_zero n rest weight (suc w) F =
    let ps = pairs n weight (suc w) in
    falling_zero n rest weight w (taken n rest 0 (length ps) F ps) ∙ taken_zero n rest (length ps) F ps

-- Single states have no neighbours.
singles_alone : (n : ℕ) (lean : Trees → ℕ → ℕ) (r x y : ℕ) → nearer n lean singles r x y ≡ false
unfolding singles
singles_alone n lean r x y = and_false (eqb x y) _ refl

-- So the bound 0 gives no defaults.
pub bound_zero : (t : List ℕ) (order s : ℕ) → toward_root t order 0 s ≡ none
unfolding toward_root forest points_to
bound_zero t order s =
    let n = states t in
    ap (λ (F : Trees). points_to n (lean n) F s) (falling_zero n (rest order n) (weight t) (classes t - 1) singles)
    ∙ first_of_none n (nearer n (lean n) singles (root n (lean n) singles s) s) (λ y l. singles_alone n (lean n) (root n (lean n) singles s) s y)

module _ (n D D' : ℕ) (large : n ≤ D + 1) (large' : n ≤ D' + 1) where
  -- With large bounds a pair is added just where its ends lie in different trees.
  added_free : (F : Trees) (p : ℕ × ℕ) → Sized n F → p.0 < n → p.1 < n → added_or_dropped n D F p ≡ added_or_dropped n D' F p
  unfolding added_or_dropped
  added_free F p S ub vb =
      elim (ℕ_discrete (F.tree p.0) (F.tree p.1)) [
        | yes e ↦ rw (eq-eqb (F.tree p.0) (F.tree p.1) e)
        | no ne ↦
            let short = joined_longest_below n F S p.0 p.1 ne ub vb in
            rw (le-leb (joined_longest n F p.0 p.1) D (omega arith), le-leb (joined_longest n F p.0 p.1) D' (omega arith))
      ]

  -- Sizes are kept.
  added_sized : (F : Trees) (p : ℕ × ℕ) → Sized n F → p.0 < n → p.1 < n → Sized n (added_or_dropped n D' F p)
  unfolding added_or_dropped
  added_sized F p S ub vb = go (differ (F.tree p.0) (F.tree p.1) && leb (joined_longest n F p.0 p.1) D') refl
    where
      go : (b : Bool) → differ (F.tree p.0) (F.tree p.1) && leb (joined_longest n F p.0 p.1) D' ≡ b → Sized n (cond b (joined F p.0 p.1) F)
      go false e = S
      go true e =
          let (a, _) = and_true (differ (F.tree p.0) (F.tree p.1)) (leb (joined_longest n F p.0 p.1) D') e in
          joined_sized n F p.0 p.1 ((holds_differ (F.tree p.0) (F.tree p.1)).0 a) ub vb S

  module _ (rest : Trees → ℕ × ℕ → ℕ) (weight : ℕ → ℕ → ℕ) where
    -- The same pairs are added.
    taken_free : (w left : ℕ) (F : Trees) (ps : List (ℕ × ℕ)) → ((p : ℕ × ℕ) → Among p ps → Weighs n weight w p) → Sized n F
        → (taken n rest D left F ps ≡ taken n rest D' left F ps) × Sized n (taken n rest D' left F ps)
    taken_free w zero F ps W S = (refl, S)
    taken_free w (suc left) F [] W S = (refl, S)
    taken_free w (suc left) F (p ∷ ps) W S =
        let q = next_pair n rest F p ps in
        let Q = W q (next_pair_among n rest F p ps) in
        let ub : q.0 < n = omega (arith, Q.rising, Q.inside) in
        let (e, T) = taken_free w left (added_or_dropped n D' F q) (without q (p ∷ ps)) (λ r a. W r (without_among q r (p ∷ ps) a)) (added_sized F q S ub Q.inside) in
        (ap (λ (G : Trees). taken n rest D left G (without q (p ∷ ps))) (added_free F q S ub Q.inside) ∙ e, T)

    falling_free : (w : ℕ) (F : Trees) → Sized n F → falling n rest D weight w F ≡ falling n rest D' weight w F
    falling_free zero F S = refl
    falling_free (suc w) F S =
        let ps = pairs n weight (suc w) in
        let (e, T) = taken_free (suc w) (length ps) F ps (pairs_weigh n weight (suc w)) S in
        ap (λ (G : Trees). falling n rest D weight w G) e ∙ falling_free w (taken n rest D' (length ps) F ps) T

-- So a bound of n - 1 or more binds nothing: every such bound gives the same defaults.
pub bound_free : (t : List ℕ) (order D D' : ℕ) → states t ≤ D + 1 → states t ≤ D' + 1 → toward_root t order D ≡ toward_root t order D'
unfolding toward_root forest
bound_free t order D D' large large' =
    let n = states t in
    ap (λ (F : Trees). points_to n (lean n) F) (falling_free n D D' large large' (rest order n) (weight t) (classes t - 1) singles (singles_sized n))
