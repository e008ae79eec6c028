-- What is among the pairs of a list: the pair taken next, those left without it, those listed for a weight.
use mathlib.Core.Path.{◌≡◌, refl}
use mathlib.Core.Bool.{Bool, true, false, cond, ◌&&◌}
use mathlib.Core.Logic.{◌⊎◌, inl, inr}
use mathlib.Core.List.{List, [], ◌∷◌}
use Prim.Native.Nat.{ℕ, zero, suc, ◌<◌}
use native.Mathlib.Omega.{arith}
use lib.Dec.{ltb, eqb}
use borrow.Author.Tests.{ltb-true, eqb-true}
use Rattle.paper.specs.Below.{each}
use Rattle.paper.specs.Paths.{Among}
use Rattle.paper.specs.Forest.{Trees, pairs, without, next_pair}
use Rattle.paper.specs.BestPair.{Weighs}
use Rattle.paper.proofs.Below.{and_true}
use Rattle.paper.proofs.Paths.{among-append}

-- The pair to take next is one of the list.
pub next_pair_among : (n : ℕ) (rest : Trees → ℕ × ℕ → ℕ) (F : Trees) (p : ℕ × ℕ) (ps : List (ℕ × ℕ))
    → Among (next_pair n rest F p ps) (p ∷ ps)
next_pair_among n rest F p [] = inl refl
next_pair_among n rest F p (q ∷ qs) =
    let b = ltb (rest F q) (rest F p) in
    go b (next_pair_among n rest F (cond b q p) qs)
  where
    go : (b : Bool) {r : ℕ × ℕ} → Among r (cond b q p ∷ qs) → Among r (p ∷ q ∷ qs)
    go true (inl e) = inr (inl e)
    go false (inl e) = inl e
    go b (inr a) = inr (inr a)

-- What is left without a pair was there before.
pub without_among : (p r : ℕ × ℕ) (ps : List (ℕ × ℕ)) → Among r (without p ps) → Among r ps
without_among p r [] a = elim a [ ]
without_among p r (q ∷ qs) a = go (eqb p.0 q.0 && eqb p.1 q.1) a (without_among p r qs)
  where
    go : (b : Bool) → Among r (cond b qs (q ∷ without p qs)) → (Among r (without p qs) → Among r qs) → Among r (q ∷ qs)
    go true a ih = inr a
    go false (inl e) ih = inl e
    go false (inr a) ih = inr (ih a)

-- What is in the lists of the numbers below n is in one of them.
pub each-among : (n : ℕ) (f : ℕ → List (ℕ × ℕ)) (p : ℕ × ℕ) → Among p (each n f) → (i : ℕ) × (i < n) × Among p (f i)
each-among zero f p a = elim a [ ]
each-among (suc n) f p a = go (among-append p (each n f) (f n) a) (each-among n f p)
  where
    go : Among p (each n f) ⊎ Among p (f n) → (Among p (each n f) → (i : ℕ) × (i < n) × Among p (f i))
        → (i : ℕ) × (i < suc n) × Among p (f i)
    go (inl b) ih = let (i, l, c) = ih b in (i, omega arith, c)
    go (inr b) ih = (n, omega arith, b)

-- The pairs listed for a weight are such pairs.
pub pairs_weigh : (n : ℕ) (weight : ℕ → ℕ → ℕ) (w : ℕ) (p : ℕ × ℕ) → Among p (pairs n weight w) → Weighs n weight w p
unfolding pairs
pairs_weigh n weight w p a =
    let (u, ub, b) = each-among n _ p a in
    let (v, vb, c) = each-among n _ p b in
    listed u v vb (ltb u v && eqb (weight u v) w) refl c
  where
    listed : (u v : ℕ) → v < n → (t : Bool) → ltb u v && eqb (weight u v) w ≡ t → Among p (cond t ((u, v) ∷ []) [])
        → Weighs n weight w p
    listed u v vb false e x = elim x [ ]
    listed u v vb true e (inr x) = elim x [ ]
    listed u v vb true e (inl q) =
        let (l, k) = and_true (ltb u v) (eqb (weight u v) w) e in
        rw q (record { rising = ltb-true u v l; inside = vb; heavy = eqb-true (weight u v) w k })
