-- The forest: pairs of states by falling weight, the trees that they join, each tree's root, and the defaults toward it.
use Rattle.std.specs.Prelude.{Bool, true, cond, ◌&&◌, ◌||◌, List, [], ◌∷◌, ℕ, zero, suc, ◌+◌, ◌-◌, max, ltb, leb, eqb, length}
use Rattle.std.proofs.Math.Option.{Option}
use Rattle.paper.specs.Below.{every, how_many_of, largest, differ, each, first_of, when, or}
use Rattle.paper.specs.Table.{states, classes, shared}

-- The weight of a pair of states: the number of classes with equal next states, less one.
unfoldable pub weight : List ℕ → ℕ → ℕ → ℕ
weight t u v = shared t u v - 1

-- A forest: the number of each state's tree, the distance of two states of one tree (of two trees it means nothing), and the pairs added.
pub record Trees : Type 0 where
  pub tree : ℕ → ℕ
  pub distance : ℕ → ℕ → ℕ
  pub added : List (ℕ × ℕ)

-- Single states, each a tree of its own.
unfoldable pub singles : Trees
singles = record { tree = λ x. x; distance = λ x y. 0; added = [] }

-- The end of the pair (u, v) that lies in x's tree, for x in the tree of u or v.
unfoldable pub end_near : Trees → ℕ → ℕ → ℕ → ℕ
end_near F u v x = cond (eqb (F.tree x) (F.tree v)) v u

-- The trees of u and v joined by the pair (u, v): one tree with u's number, in which a path from the one to the other goes over the pair.
unfoldable pub joined : Trees → ℕ → ℕ → Trees
joined F u v =
    record {
      tree = λ x. cond (eqb (F.tree x) (F.tree v)) (F.tree u) (F.tree x);
      distance = λ x y. cond (eqb (F.tree x) (F.tree y)) (F.distance x y) (F.distance x (end_near F u v x) + 1 + F.distance (end_near F u v y) y);
      added = (u, v) ∷ F.added;
    }

module _ (n : ℕ) where
  -- The longest distance from x in its tree.
  unfoldable pub d : Trees → ℕ → ℕ
  d F x = largest n (λ y. cond (eqb (F.tree x) (F.tree y)) (F.distance x y) 0)

  -- The longest path of x's tree.
  unfoldable pub longest : Trees → ℕ → ℕ
  longest F x = largest n (λ y. cond (eqb (F.tree x) (F.tree y)) (d F y) 0)

  -- The longest path that goes over the pair (u, v), once it joins the trees of u and v.
  abbrev pub across : Trees → ℕ → ℕ → ℕ
  across F u v = d F u + d F v + 1

  -- The larger of the longest paths of the trees of u and v.
  abbrev pub longest_of_both : Trees → ℕ → ℕ → ℕ
  longest_of_both F u v = max (longest F u) (longest F v)

  -- The longest path of the trees of u and v joined by the pair.
  unfoldable pub joined_longest : Trees → ℕ → ℕ → ℕ
  joined_longest F u v = max (longest_of_both F u v) (across F u v)

  -- How much longer the pair makes the longest path: the larger of 0 and what the path over the pair has more than the longer of both trees' longest paths.
  abbrev pub growth : Trees → ℕ → ℕ → ℕ
  growth F u v = across F u v - longest_of_both F u v

  -- The pair is added if its ends lie in different trees and the joined tree's longest path is at most D, and otherwise dropped.
  unfoldable pub added_or_dropped : ℕ → Trees → ℕ × ℕ → Trees
  added_or_dropped D F p =
      cond (differ (F.tree p.0) (F.tree p.1) && leb (joined_longest F p.0 p.1) D) (joined F p.0 p.1) F

  -- The pairs of weight w, by smaller first state, then smaller second, the first below the second.
  unfoldable pub pairs : (ℕ → ℕ → ℕ) → ℕ → List (ℕ × ℕ)
  pairs weight w = each n (λ u. each n (λ v. cond (ltb u v && eqb (weight u v) w) ((u, v) ∷ []) []))

-- The list without one pair.
abbrev pub without : ℕ × ℕ → List (ℕ × ℕ) → List (ℕ × ℕ)
without p [] = []
without p (q ∷ qs) = cond (eqb p.0 q.0 && eqb p.1 q.1) qs (q ∷ without p qs)

module _ (n : ℕ) (rest : Trees → ℕ × ℕ → ℕ) where
  -- Of a pair and a list of pairs of equal weight the one to take: the smallest rest, of two that tie the earlier.
  abbrev pub next_pair : Trees → ℕ × ℕ → List (ℕ × ℕ) → ℕ × ℕ
  next_pair F p [] = p
  next_pair F p (q ∷ qs) = next_pair F (cond (ltb (rest F q) (rest F p)) q p) qs

  -- The pairs of a list taken one by one, `left` of them, each added or dropped for good.
  abbrev pub taken : ℕ → ℕ → Trees → List (ℕ × ℕ) → Trees
  taken D zero F ps = F
  taken D (suc left) F [] = F
  taken D (suc left) F (p ∷ ps) =
      let q = next_pair F p ps in
      taken D left (added_or_dropped n D F q) (without q (p ∷ ps))

  -- The pairs taken by falling weight from w down to 1; those of weight below 1 are dropped.
  abbrev pub falling : ℕ → (ℕ → ℕ → ℕ) → ℕ → Trees → Trees
  falling D weight zero F = F
  falling D weight (suc w) F =
      let ps = pairs n weight (suc w) in
      falling D weight w (taken D (length ps) F ps)

module _ (n : ℕ) (lean : Trees → ℕ → ℕ) (F : Trees) where
  -- As a root y goes before z: by smaller d, then smaller lean, then smaller number.
  abbrev pub before : ℕ → ℕ → Bool
  before y z =
      ltb (d n F y) (d n F z)
      || (eqb (d n F y) (d n F z) && (ltb (lean F y) (lean F z) || (eqb (lean F y) (lean F z) && leb y z)))

  -- The state y is its tree's root: the centre, the state with the smallest d, of two centres the one with more neighbours, and of two with equally many the smaller number.
  unfoldable pub is_root_of : ℕ → Bool
  is_root_of y = every n (λ z. cond (eqb (F.tree y) (F.tree z)) (before y z) true)

  -- The root of x's tree.
  unfoldable pub root : ℕ → ℕ
  root x = or (first_of n (λ y. when (eqb (F.tree x) (F.tree y) && is_root_of y) y)) x

  -- The state y is in x's tree a neighbour of x and one step nearer to r.
  abbrev pub nearer : ℕ → ℕ → ℕ → Bool
  nearer r x y = eqb (F.tree x) (F.tree y) && (eqb (F.distance x y) 1 && eqb (F.distance y r + 1) (F.distance x r))

  -- The default of x points to the root: it is the neighbour one step nearer to it, and a root has none.
  unfoldable pub points_to : ℕ → Option ℕ
  points_to x = first_of n (λ y. when (nearer (root x) x y) y)

-- The weights of the pairs of a list together.
abbrev pub weights_of : (ℕ → ℕ → ℕ) → List (ℕ × ℕ) → ℕ
weights_of weight [] = 0
weights_of weight (p ∷ ps) = weight p.0 p.1 + weights_of weight ps

-- The number that orders pairs of equal weight before their states: none in order 0, so 0; in order 1 (BGS) the longest path over the pair; in order 2 (REF) the growth.
abbrev pub rest : ℕ → ℕ → Trees → ℕ × ℕ → ℕ
rest zero n F p = 0
rest (suc zero) n F p = across n F p.0 p.1
rest (suc (suc order)) n F p = growth n F p.0 p.1

-- The number of neighbours of x in its tree.
unfoldable pub neighbours : ℕ → Trees → ℕ → ℕ
neighbours n F x = how_many_of n (λ y. eqb (F.tree x) (F.tree y) && eqb (F.distance x y) 1)

-- The number that orders states of equal d before their own numbers when a root is chosen: it is smaller the more neighbours a state has.
abbrev pub lean : ℕ → Trees → ℕ → ℕ
lean n F x = n - neighbours n F x

-- The forest of a table in one of the orders 0, 1 and 2 with path bound D; no weight is above k - 1.
unfoldable pub forest : List ℕ → ℕ → ℕ → Trees
forest t order D = falling (states t) (rest order (states t)) D (weight t) (classes t - 1) singles

-- The default of each state in these orders: toward the root of its tree.
unfoldable pub toward_root : List ℕ → ℕ → ℕ → ℕ → Option ℕ
toward_root t order D = points_to (states t) (lean (states t)) (forest t order D)
