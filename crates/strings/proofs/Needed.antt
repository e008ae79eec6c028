-- Strings as they are first needed: each new one is put at the end, those that are there keep their numbers.
use mathlib.Core.Path.{◌≡◌, refl, sym, ap, ◌∙◌}
use mathlib.Core.Bool.{Bool, true, false, cond, ◌||◌, or_assoc, or-false}
use mathlib.Core.List.{List, [], ◌∷◌, ◌++◌, append_assoc, append-nil}
use Prim.Native.Nat.{ℕ}
use Rattle.paper.specs.Below.{same}
use Rattle.paper.specs.Strings.{among, needed}
use Rattle.strings.proofs.Same.{same_eq}
use Rattle.strings.proofs.Among.{among_snoc, NoRepeats, no_repeats_snoc}

-- One string more: put at the end where it is not there yet.
abbrev pub added : List (List ℕ) → List ℕ → List (List ℕ)
added ws v = cond (among v ws) ws (ws ++ (v ∷ []))

-- With one string more the list has what it had, and that string.
pub added_among : (w : List ℕ) (ws : List (List ℕ)) (v : List ℕ) → among w (added ws v) ≡ among w ws || same v w
added_among w ws v = go (among v ws) refl (same v w) refl
  where
    go : (a : Bool) → among v ws ≡ a → (b : Bool) → same v w ≡ b → among w (cond a ws (ws ++ (v ∷ []))) ≡ among w ws || same v w
    go true p true q = rw (← same_eq v w q, p)
    go true p false q = rw (q, or-false)
    go false p b q = among_snoc w ws v

-- What is needed of a second list: what the first has and what the second has.
pub needed-among : (w : List ℕ) (ws vs : List (List ℕ)) → among w (needed ws vs) ≡ among w ws || among w vs
needed-among w ws [] = sym (or-false (among w ws))
needed-among w ws (v ∷ vs) =
    needed-among w (added ws v) vs
    ∙ ap (λ (b : Bool). b || among w vs) (added_among w ws v)
    ∙ or_assoc (among w ws) (same v w) (among w vs)

-- No repeats come in.
pub needed_once : (ws vs : List (List ℕ)) → NoRepeats ws → NoRepeats (needed ws vs)
needed_once ws [] n = n
needed_once ws (v ∷ vs) n = needed_once (added ws v) vs (go (among v ws) refl)
  where
    go : (a : Bool) → among v ws ≡ a → NoRepeats (cond a ws (ws ++ (v ∷ [])))
    go true p = n
    go false p = no_repeats_snoc ws v n p

-- One list after the other: what the code's two loops do.
pub needed-append : (ws us vs : List (List ℕ)) → needed ws (us ++ vs) ≡ needed (needed ws us) vs
needed-append ws [] vs = refl
needed-append ws (u ∷ us) vs = needed-append (added ws u) us vs

-- The first list stays where it is, and what is new stands behind it.
pub needed-behind : (ws vs : List (List ℕ)) → (us : List (List ℕ)) × (needed ws vs ≡ ws ++ us)
needed-behind ws [] = ([], sym (append-nil ws))
needed-behind ws (v ∷ vs) = let (us, e) = needed-behind (added ws v) vs in go us (among v ws) e
  where
    go : (us : List (List ℕ)) (b : Bool) → needed (added ws v) vs ≡ cond b ws (ws ++ (v ∷ [])) ++ us
        → (us : List (List ℕ)) × (needed (added ws v) vs ≡ ws ++ us)
    go us true e = (us, e)
    go us false e = (v ∷ us, e ∙ append_assoc ws (v ∷ []) us)
