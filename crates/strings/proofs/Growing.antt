-- The names as two loops make them: string by string, and in each from the empty beginning to the string itself.
use mathlib.Core.Path.{◌≡◌, refl, sym, ap, ◌∙◌}
use mathlib.Core.Bool.{Bool, true, false, cond, ◌||◌, or-true}
use mathlib.Core.List.{List, [], ◌∷◌, ◌++◌, append_assoc, append-nil}
use Prim.Native.Nat.{ℕ, suc, ◌≤◌}
use native.Mathlib.Omega.{arith}
use lib.ListN.{length, take, length-append}
use Rattle.paper.specs.Below.{list, same}
use Rattle.paper.specs.Strings.{Rule, among, number_of, needed, beginnings, names}
use Rattle.strings.proofs.Same.{same_refl}
use Rattle.strings.proofs.Needed.{added, added_among, needed-append, needed-behind}
use Rattle.strings.proofs.Names.{beginnings_of}

-- The names when some rules are done, and of the next string its first j beginnings.
abbrev pub grown : List Rule → List ℕ → ℕ → List (List ℕ)
grown rs w j = needed (names rs) (list j (λ i. take i w))

-- The beginnings of one rule more.
beginnings_snoc : (rs : List Rule) (r : Rule) → beginnings (rs ++ (r ∷ [])) ≡ beginnings rs ++ beginnings_of r.string
beginnings_snoc [] r = append-nil (beginnings_of r.string)
beginnings_snoc (q ∷ rs) r =
    ap (λ (l : List (List ℕ)). beginnings_of q.string ++ l) (beginnings_snoc rs r)
    ∙ sym (append_assoc (beginnings_of q.string) (beginnings rs) (beginnings_of r.string))

-- With all its beginnings a rule is done.
pub grown_rule : (rs : List Rule) (r : Rule) → grown rs r.string (suc (length r.string)) ≡ names (rs ++ (r ∷ []))
unfolding names
grown_rule rs r = sym (ap (needed []) (beginnings_snoc rs r) ∙ needed-append [] (beginnings rs) (beginnings_of r.string))

-- A string just put in is there.
pub added_there : (ws : List (List ℕ)) (v : List ℕ) → among v (added ws v) ≡ true
added_there ws v = added_among v ws v ∙ ap (λ (b : Bool). among v ws || b) (same_refl v) ∙ or-true (among v ws)

-- Its number is that which it had, or the number of strings before.
pub added_number : (ws : List (List ℕ)) (v : List ℕ) → number_of v (added ws v) ≡ number_of v ws
added_number ws v = go (among v ws) refl
  where
    new : (us : List (List ℕ)) → number_of v (us ++ (v ∷ [])) ≡ number_of v us
    new [] = ap (λ (b : Bool). cond b 0 1) (same_refl v)
    new (u ∷ us) = ap (λ (m : ℕ). cond (same u v) 0 (suc m)) (new us)

    go : (a : Bool) → among v ws ≡ a → number_of v (cond a ws (ws ++ (v ∷ []))) ≡ number_of v ws
    go true q = refl
    go false q = new ws

-- Where there are more than 512 names already, there are in the end: the loops may stop.
pub grown_more : (ws vs : List (List ℕ)) → length ws ≤ length (needed ws vs)
grown_more ws vs = let (us, e) = needed-behind ws vs in omega (arith, ap length e, length-append ws us)
