-- Pairs by first state, then by second, and lists of pairs that stand so.
use mathlib.Core.Path.{◌≡◌, refl, sym, ap, ◌∙◌}
use mathlib.Core.Bool.{Bool, true, false, cond, ◌&&◌}
use mathlib.Core.Logic.{◌⊎◌, inl, inr}
use mathlib.Core.List.{List, [], ◌∷◌, ◌++◌}
use Prim.Native.Nat.{ℕ, zero, suc, ◌<◌}
use native.Mathlib.Omega.{arith}
use native.Mathlib.Decide.{ℕ_discrete}
use lib.Dec.{ltb, eqb}
use lib.ListN.{length}
use borrow.Author.Tests.{lt-ltb, eq-eqb, ne_eqb}
use Rattle.paper.specs.Below.{each}
use Rattle.paper.specs.Paths.{Among}
use Rattle.paper.specs.Forest.{pairs, without}
use Rattle.paper.specs.BestPair.{Weighs, Earlier}
use Rattle.paper.proofs.Paths.{among-append, among-left, among-right, same_pair}
use Rattle.trees.proofs.Pairs.{without_among, each-among}

-- Each pair of the list stands before all behind it.
abbrev pub Sorted : List (ℕ × ℕ) → Type 0
Sorted [] = Unit {0}
Sorted (p ∷ ps) = ((q : ℕ × ℕ) → Among q ps → Earlier p q) × Sorted ps

-- What stands before a pair stands before what that stands before.
pub earlier_then : (p q r : ℕ × ℕ) → Earlier p q → Earlier q r → Earlier p r
earlier_then p q r (inl a) (inl b) = inl (omega arith)
earlier_then p q r (inl a) (inr b) = inl (omega (arith, b.0))
earlier_then p q r (inr a) (inl b) = inl (omega (arith, a.0))
earlier_then p q r (inr a) (inr b) = inr (a.0 ∙ b.0, omega (arith, a.1, b.1))

-- Two pairs each of which stands before the other are one.
pub earlier_both : (p q : ℕ × ℕ) → Earlier p q → Earlier q p → p ≡ q
earlier_both p q (inl a) (inl b) = absurd (omega arith)
earlier_both p q (inl a) (inr b) = absurd (omega (arith, b.0))
earlier_both p q (inr a) (inl b) = absurd (omega (arith, a.0))
earlier_both p q (inr a) (inr b) = let e : p.1 ≡ q.1 = omega (arith, a.1, b.1) in λ i. (a.0 i, e i)

-- Two sorted lists, the first before the second, are one.
pub sorted_append : (a b : List (ℕ × ℕ)) → Sorted a → Sorted b → ((p q : ℕ × ℕ) → Among p a → Among q b → Earlier p q) → Sorted (a ++ b)
sorted_append [] b s t h = t
sorted_append (p ∷ a) b s t h = (go, sorted_append a b s.1 t (λ q r m. h q r (inr m)))
  where
    go : (q : ℕ × ℕ) → Among q (a ++ b) → Earlier p q
    go q m = at (among-append q a b m)
      where
        at : Among q a ⊎ Among q b → Earlier p q
        at (inl x) = s.0 q x
        at (inr x) = h p q (inl refl) x

-- The test of two pairs that differ fails.
pair_differs : (p q : ℕ × ℕ) → ¬ (p ≡ q) → eqb p.0 q.0 && eqb p.1 q.1 ≡ false
pair_differs p q ne = go (ℕ_discrete p.0 q.0) (ℕ_discrete p.1 q.1)
  where
    go : Dec (p.0 ≡ q.0) → Dec (p.1 ≡ q.1) → eqb p.0 q.0 && eqb p.1 q.1 ≡ false
    go (yes a) (yes b) = absurd (ne (λ i. (a i, b i)))
    go (yes a) (no b) = rw (eq-eqb p.0 q.0 a, ne_eqb p.1 q.1 b)
    go (no a) d = rw (ne_eqb p.0 q.0 a)

-- That of two that are one passes.
pair_same : (p q : ℕ × ℕ) → p ≡ q → eqb p.0 q.0 && eqb p.1 q.1 ≡ true
pair_same p q e = rw (eq-eqb p.0 q.0 (ap (λ (z : ℕ × ℕ). z.0) e), eq-eqb p.1 q.1 (ap (λ (z : ℕ × ℕ). z.1) e))

-- What is left of a sorted list without a pair is sorted.
pub without_sorted : (p : ℕ × ℕ) (ps : List (ℕ × ℕ)) → Sorted ps → Sorted (without p ps)
without_sorted p [] s = s
without_sorted p (q ∷ qs) s = go (eqb p.0 q.0 && eqb p.1 q.1) (without_sorted p qs s.1)
  where
    go : (b : Bool) → Sorted (without p qs) → Sorted (cond b qs (q ∷ without p qs))
    go true ih = s.1
    go false ih = (λ r m. s.0 r (without_among p r qs m), ih)

-- Every other pair stays.
pub without_others : (p r : ℕ × ℕ) (ps : List (ℕ × ℕ)) → Among r ps → ¬ (r ≡ p) → Among r (without p ps)
without_others p r [] m ne = elim m [ ]
without_others p r (q ∷ qs) m ne = go (same_pair p q) m (λ x. without_others p r qs x ne)
  where
    go : Dec (p ≡ q) → Among r (q ∷ qs) → (Among r qs → Among r (without p qs)) → Among r (without p (q ∷ qs))
    go (yes e) (inl x) ih = absurd (ne (x ∙ sym e))
    go (yes e) (inr x) ih = rw (pair_same p q e) x
    go (no k) (inl x) ih = rw (pair_differs p q k) (inl x)
    go (no k) (inr x) ih = rw (pair_differs p q k) (inr (ih x))

-- A list without one of its pairs is shorter by 1.
pub without_length : (p : ℕ × ℕ) (ps : List (ℕ × ℕ)) → Among p ps → suc (length (without p ps)) ≡ length ps
without_length p [] m = elim m [ ]
without_length p (q ∷ qs) m = go (same_pair p q) m (without_length p qs)
  where
    go : Dec (p ≡ q) → Among p (q ∷ qs) → (Among p qs → suc (length (without p qs)) ≡ length qs) → suc (length (without p (q ∷ qs))) ≡ length (q ∷ qs)
    go (yes e) x ih = rw (pair_same p q e)
    go (no k) (inl x) ih = absurd (k x)
    go (no k) (inr x) ih = rw (pair_differs p q k) (ap suc (ih x))

-- Lists of the numbers below n, each sorted and before the next, are sorted one after the other.
each_sorted : (n : ℕ) (f : ℕ → List (ℕ × ℕ)) → ((i : ℕ) → i < n → Sorted (f i))
    → ((i j : ℕ) → i < j → j < n → (p q : ℕ × ℕ) → Among p (f i) → Among q (f j) → Earlier p q) → Sorted (each n f)
each_sorted zero f s h = tt
each_sorted (suc n) f s h =
    sorted_append (each n f) (f n) (each_sorted n f (λ i l. s i (omega arith)) (λ i j l k. h i j l (omega arith))) (s n (omega arith))
    (λ p q m r. let (i, l, a) = each-among n f p m in h i n l (omega arith) p q a r)

-- What is in one of them is in all of them together.
among-each : (n i : ℕ) (f : ℕ → List (ℕ × ℕ)) (p : ℕ × ℕ) → i < n → Among p (f i) → Among p (each n f)
among-each zero i f p l m = absurd (omega arith)
among-each (suc n) i f p l m = go (ℕ_discrete i n) (among-each n i f p)
  where
    go : Dec (i ≡ n) → (i < n → Among p (f i) → Among p (each n f)) → Among p (each n f ++ f n)
    go (yes e) ih = among-right p (each n f) (f n) (rw e at m)
    go (no e) ih = among-left p (each n f) (f n) (ih (omega arith) m)

-- A list of one pair, where a test passes, holds that pair.
listed : (b : Bool) (u v : ℕ) (p : ℕ × ℕ) → Among p (cond b ((u, v) ∷ []) []) → p ≡ (u, v)
listed false u v p x = elim x [ ]
listed true u v p (inr x) = elim x [ ]
listed true u v p (inl e) = e

-- It is sorted.
listed_sorted : (b : Bool) (u v : ℕ) → Sorted (cond b ((u, v) ∷ []) [])
listed_sorted true u v = (λ q m. absurd m, tt)
listed_sorted false u v = tt

module _ (n : ℕ) (weight : ℕ → ℕ → ℕ) (w : ℕ) where
  -- The pairs of one weight are sorted.
  pub pairs_sorted : Sorted (pairs n weight w)
  unfolding pairs
  pairs_sorted =
      let heavy : ℕ → ℕ → Bool = λ u v. ltb u v && eqb (weight u v) w in
      let piece : ℕ → ℕ → List (ℕ × ℕ) = λ u v. cond (heavy u v) ((u, v) ∷ []) [] in
      each_sorted n (λ u. each n (piece u))
      (λ u l. each_sorted n (piece u) (λ v k. listed_sorted (heavy u v) u v)
      (λ v x k b p q m r. rw (listed (heavy u v) u v p m, listed (heavy u x) u x q r) (inr (refl, omega arith))))
      (λ u x k b p q m r.
      let (v, vb, a) = each-among n (piece u) p m in
      let (y, yb, c) = each-among n (piece x) q r in
      rw (listed (heavy u v) u v p a, listed (heavy x y) x y q c) (inl k))

  -- All pairs of that weight are among them.
  pub pairs_all : (p : ℕ × ℕ) → Weighs n weight w p → Among p (pairs n weight w)
  unfolding pairs
  pairs_all p W =
      let heavy : ℕ → ℕ → Bool = λ u v. ltb u v && eqb (weight u v) w in
      let piece : ℕ → ℕ → List (ℕ × ℕ) = λ u v. cond (heavy u v) ((u, v) ∷ []) [] in
      let one : Among p (piece p.0 p.1) = rw (lt-ltb p.0 p.1 W.rising, eq-eqb (weight p.0 p.1) w W.heavy) (inl refl) in
      among-each n p.0 (λ u. each n (piece u)) p (omega (arith, W.rising, W.inside))
      (among-each n p.1 (piece p.0) p W.inside one)
