-- Laws of paths as lists of pairs: one after another, cut at a pair, and no pair twice.
use mathlib.Core.Path.{◌≡◌, refl, sym, ap, subst}
use mathlib.Core.Logic.{◌⊎◌, inl, inr}
use mathlib.Core.List.{List, [], ◌∷◌, ◌++◌}
use Prim.Native.Nat.{ℕ}
use native.Mathlib.Decide.{ℕ_discrete}
use Rattle.paper.specs.Paths.{Among, Over, Once, Crosses, Leads}

-- Two pairs are one, or not.
pub same_pair : (p q : ℕ × ℕ) → Dec (p ≡ q)
same_pair p q = go (ℕ_discrete p.0 q.0) (ℕ_discrete p.1 q.1)
  where
    go : Dec (p.0 ≡ q.0) → Dec (p.1 ≡ q.1) → Dec (p ≡ q)
    go (yes a) (yes b) = yes (λ i. (a i, b i))
    go (yes a) (no b) = no (λ e. b (ap (λ (x : ℕ × ℕ). x.1) e))
    go (no a) d = no (λ e. a (ap (λ (x : ℕ × ℕ). x.0) e))

-- A pair of two lists one after the other is one of the first or of the second.
pub among-append : (p : ℕ × ℕ) (a b : List (ℕ × ℕ)) → Among p (a ++ b) → Among p a ⊎ Among p b
among-append p [] b h = inr h
among-append p (q ∷ a) b (inl e) = inl (inl e)
among-append p (q ∷ a) b (inr h) = go (among-append p a b h)
  where
    go : Among p a ⊎ Among p b → Among p (q ∷ a) ⊎ Among p b
    go (inl x) = inl (inr x)
    go (inr x) = inr x

-- A pair of the first list is one of both.
pub among-left : (p : ℕ × ℕ) (a b : List (ℕ × ℕ)) → Among p a → Among p (a ++ b)
among-left p [] b h = absurd h
among-left p (q ∷ a) b (inl e) = inl e
among-left p (q ∷ a) b (inr h) = inr (among-left p a b h)

-- A pair of the second list is one of both.
pub among-right : (p : ℕ × ℕ) (a b : List (ℕ × ℕ)) → Among p b → Among p (a ++ b)
among-right p [] b h = h
among-right p (q ∷ a) b h = inr (among-right p a b h)

-- One path after another.
pub leads_append : (a b : List (ℕ × ℕ)) (x z y : ℕ) → Leads a x z → Leads b z y → Leads (a ++ b) x y
leads_append [] b x z y e l = rw e l
leads_append (p ∷ a) b x z y (w, c, k) l = (w, c, leads_append a b w z y k l)

-- A path cut at a pair.
pub record Cut (a b : List (ℕ × ℕ)) (r : ℕ × ℕ) (x y : ℕ) : Type 0 where
  pub from : ℕ
  pub to : ℕ
  pub first : Leads a x from
  pub over : Crosses r from to
  pub then : Leads b to y

-- A path through a pair is cut there.
pub leads_cut : (a b : List (ℕ × ℕ)) (r : ℕ × ℕ) (x y : ℕ) → Leads (a ++ (r ∷ b)) x y → Cut a b r x y
leads_cut [] b r x y (z, c, l) = record { from = x; to = z; first = refl; over = c; then = l }
leads_cut (p ∷ a) b r x y (z, c, l) =
    let C = leads_cut a b r z y l in
    record { from = C.from; to = C.to; first = (z, c, C.first); over = C.over; then = C.then }

-- A pair is not in a list, or the list is cut at the first place where it is.
pub record At (r : ℕ × ℕ) (ps : List (ℕ × ℕ)) : Type 0 where
  pub before : List (ℕ × ℕ)
  pub after : List (ℕ × ℕ)
  pub here : ps ≡ before ++ (r ∷ after)
  pub first : ¬ Among r before

-- Which of the two it is.
pub find_pair : (r : ℕ × ℕ) (ps : List (ℕ × ℕ)) → (¬ Among r ps) ⊎ At r ps
find_pair r [] = inl (λ h. h)
find_pair r (p ∷ ps) = go (same_pair r p) (find_pair r ps)
  where
    go : Dec (r ≡ p) → (¬ Among r ps) ⊎ At r ps → (¬ Among r (p ∷ ps)) ⊎ At r (p ∷ ps)
    go (yes e) d = inr (record { before = []; after = ps; here = ap (λ (q : ℕ × ℕ). q ∷ ps) (sym e); first = λ h. h })
    go (no n) (inl m) = inl other
      where
        other : ¬ Among r (p ∷ ps)
        other (inl e) = n e
        other (inr h) = m h
    go (no n) (inr A) = inr (record { before = p ∷ A.before; after = A.after; here = ap (λ (q : List (ℕ × ℕ)). p ∷ q) A.here; first = other })
      where
        other : ¬ Among r (p ∷ A.before)
        other (inl e) = n e
        other (inr h) = A.first h

-- No pair stands twice in two lists that have none in common, and none in a part of a list in which none does.
pub once_append : (a b : List (ℕ × ℕ)) → Once a → Once b → ((p : ℕ × ℕ) → Among p a → Among p b → ⊥) → Once (a ++ b)
once_append [] b o k n = k
once_append (p ∷ a) b (m, o) k n = (go, once_append a b o k (λ q h. n q (inr h)))
  where
    go : ¬ Among p (a ++ b)
    go h = at (among-append p a b h)
      where
        at : Among p a ⊎ Among p b → ⊥
        at (inl x) = m x
        at (inr x) = n p (inl refl) x

-- So it is in the first part.
pub once_left : (a b : List (ℕ × ℕ)) → Once (a ++ b) → Once a
once_left [] b o = tt
once_left (p ∷ a) b (m, o) = (λ h. m (among-left p a b h), once_left a b o)

-- So it is in the last part.
pub once_right : (a b : List (ℕ × ℕ)) → Once (a ++ b) → Once b
once_right [] b o = o
once_right (p ∷ a) b (m, o) = once_right a b o

-- A path over a pair and others that does not take the pair goes over the others.
pub over_others : (r : ℕ × ℕ) (ps added : List (ℕ × ℕ)) → Over ps (r ∷ added) → ¬ Among r ps → Over ps added
over_others r ps added o n p h = go (o p h)
  where
    go : (p ≡ r) ⊎ Among p added → Among p added
    go (inl e) = absurd (n (subst (λ (q : ℕ × ℕ). Among q ps) e h))
    go (inr x) = x
