-- The names as code puts them in: behind the empty string, string by string, and of each string byte by byte.
use mathlib.Core.Path.{◌≡◌, refl, sym, ap, ◌∙◌}
use mathlib.Core.Bool.{Bool, true, cond}
use mathlib.Core.List.{List, [], ◌∷◌, ◌++◌}
use Prim.Native.Nat.{ℕ, zero, suc, ◌≤◌, ◌<◌}
use native.Mathlib.Decide.{ℕ_discrete}
use native.Mathlib.Omega.{arith}
use lib.ListN.{length, take, length-append}
use lib.Seq.{take-take}
use Rattle.paper.specs.Below.{list}
use Rattle.paper.specs.Strings.{Rule, rules, count, string, among, needed, names}
use Rattle.paper.proofs.Below.{each_same}
use Rattle.strings.proofs.Lists.{list_first}
use Rattle.strings.proofs.Needed.{added, needed-append}
use Rattle.strings.proofs.Names.{empty_name}
use Rattle.strings.proofs.Listed.{rule_at, rules-length}
use Rattle.strings.proofs.Growing.{grown_rule, grown_more}
use Rattle.strings.proofs.Parts.{part}

-- The names of rules with the empty string, which is there before any rule.
abbrev pub started : List Rule → List (List ℕ)
started rs = added (names rs) []

-- Names with the first j beginnings, after the empty one, of the bytes from a place on.
abbrev pub put_in : List ℕ → ℕ → List (List ℕ) → ℕ → List (List ℕ)
put_in b at ws j = needed ws (list j (λ i. part b at (suc i)))

-- One beginning more.
pub put_next : (b : List ℕ) (at : ℕ) (ws : List (List ℕ)) (j : ℕ) → put_in b at ws (suc j) ≡ added (put_in b at ws j) (part b at (suc j))
put_next b at ws j = needed-append ws (list j (λ i. part b at (suc i))) (part b at (suc j) ∷ [])

-- With more beginnings there are not fewer names.
pub put_more : (b : List ℕ) (at : ℕ) (ws : List (List ℕ)) (j m : ℕ) → j ≤ m → length (put_in b at ws j) ≤ length (put_in b at ws m)
put_more b at ws zero zero h = omega arith
put_more b at ws (suc j) zero h = absurd (omega arith)
put_more b at ws j (suc m) h = go (ℕ_discrete j (suc m)) (put_more b at ws j m)
  where
    go : Dec (j ≡ suc m) → (j ≤ m → length (put_in b at ws j) ≤ length (put_in b at ws m)) → length (put_in b at ws j) ≤ length (put_in b at ws (suc m))
    go (yes e) ih = rw e (omega arith)
    go (no e) ih =
        omega (arith, ih (omega arith), ap length (put_next b at ws m), grown_more (put_in b at ws m) (part b at (suc m) ∷ []))

-- A rule more is its string put in.
pub started_next : (b : List ℕ) (at size : ℕ) (rs : List Rule) (r : Rule) → r.string ≡ part b at size → length r.string ≡ size
    → started (rs ++ (r ∷ [])) ≡ put_in b at (started rs) size
started_next b at size rs r e l =
    ap (λ (t : Bool). cond t (names (rs ++ (r ∷ []))) (names (rs ++ (r ∷ [])) ++ ([] ∷ []))) there
    ∙ sym (grown_rule rs r)
    ∙ ap (needed (names rs)) (list_first (length r.string) (λ j. take j r.string))
    ∙ ap (λ (m : ℕ). needed (started rs) (list m (λ i. take (suc i) r.string))) l
    ∙ ap (needed (started rs))
    (each_same size (λ i. take (suc i) r.string ∷ []) (λ i. part b at (suc i) ∷ [])
    (λ i h. ap (λ (v : List ℕ). v ∷ []) (ap (take (suc i)) e ∙ take-take (suc i) size _ h)))
  where
    there : among [] (names (rs ++ (r ∷ []))) ≡ true
    there = empty_name (rs ++ (r ∷ [])) (omega (arith, length-append rs (r ∷ [])))

module _ (b : List ℕ) where
  -- The names of the first i strings of a word list.
  abbrev pub up_to : ℕ → List (List ℕ)
  up_to i = started (list i (rule_at b))

  -- One string more.
  pub up_next : (at size i : ℕ) → string b i ≡ part b at size → length (string b i) ≡ size → up_to (suc i) ≡ put_in b at (up_to i) size
  up_next at size i e l = started_next b at size (list i (rule_at b)) (rule_at b i) e l

  -- With all strings they are the names of the list.
  pub up_all : 1 ≤ count b → up_to (count b) ≡ names (rules b)
  unfolding rules
  up_all h = ap (λ (t : Bool). cond t (names (rules b)) (names (rules b) ++ ([] ∷ []))) (empty_name (rules b) (omega (arith, rules-length b)))

  -- With more strings there are not fewer names.
  pub up_more : ((i : ℕ) → i < count b → (at : ℕ) × (string b i ≡ part b at (length (string b i)))) → (i m : ℕ) → i ≤ m → m ≤ count b → length (up_to i) ≤ length (up_to m)
  up_more place zero zero h k = omega arith
  up_more place (suc i) zero h k = absurd (omega arith)
  up_more place i (suc m) h k = go (ℕ_discrete i (suc m)) (up_more place i m)
    where
      go : Dec (i ≡ suc m) → (i ≤ m → m ≤ count b → length (up_to i) ≤ length (up_to m)) → length (up_to i) ≤ length (up_to (suc m))
      go (yes e) ih = rw e (omega arith)
      go (no e) ih =
          let (at, q) = place m k in
          let n = length (string b m) in
          omega (arith, ih (omega arith) (omega arith), ap length (up_next at n m q refl), grown_more (up_to m) (list n (λ i. part b at (suc i))))
