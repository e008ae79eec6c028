-- The rules of a word list, and what acceptance says of them.
use mathlib.Core.Path.{◌≡◌, refl, sym}
use mathlib.Core.Bool.{false, ◌||◌}
use mathlib.Core.Logic.{◌⊎◌, inl, inr, ◌↔◌}
use mathlib.Core.List.{List, [], ◌∷◌, ◌++◌}
use Prim.Native.Nat.{ℕ, zero, suc, ◌≤◌, ◌<◌}
use native.Mathlib.Omega.{arith}
use lib.Dec.{ltb, eqb}
use lib.ListN.{length, get_or}
use borrow.Author.Tests.{eqb-false, ltb-false}
use Rattle.paper.specs.Below.{any, list}
use Rattle.paper.specs.Refusals.{first}
use Rattle.paper.specs.Strings.{Rule, rules, count, label, size, string, string_at, list_labels_bad, names, labels_ending, too_many_labels}
use Rattle.paper.specs.Operations.{strings_grounds}
use Rattle.paper.specs.Sentences.{Some}
use Rattle.paper.specs.Endings.{EndingOf}
use Rattle.paper.proofs.Below.{any_at}
use Rattle.paper.proofs.Tests.{or_both}
use Rattle.paper.proofs.Refusals.{accepted}
use Rattle.paper.proofs.Lists.{length-list}
use Rattle.strings.proofs.Shape.{shaped}
use Rattle.strings.proofs.OneOf.{OneOf, one_of_list, one_of_append}
use Rattle.strings.proofs.Inserted.{in_some}
use Rattle.strings.proofs.Labels.{EndsWith, in_labels, Distinct}

-- The rule at a place of a word list.
abbrev pub rule_at : List ℕ → ℕ → Rule
rule_at b i = record { label = label b i; string = string b i }

-- There are as many rules as the list counts.
pub rules-length : (b : List ℕ) → length (rules b) ≡ count b
unfolding rules
rules-length b = length-list (count b) (rule_at b)

-- Some rule is such just where the rule at some place is.
pub one_of_rules : (P : Rule → Type 0) (b : List ℕ) → OneOf P (rules b) ↔ Some (count b) (λ i. P (rule_at b i))
unfolding rules
one_of_rules P b = one_of_list P (count b) (rule_at b)

-- A label is among those of a string just where it is the label of a string of the list that ends there.
pub labels_of_endings : (b w : List ℕ) (l : ℕ)
    → Some (length (labels_ending (rules b) w)) (λ j. get_or (labels_ending (rules b) w) j 0 ≡ l)
    ↔ Some (count b) (λ i. (label b i ≡ l) × EndingOf (string b i) w)
labels_of_endings b w l =
    let (f, g) = in_some l (labels_ending (rules b) w) in
    let (f', g') = in_labels l (rules b) w in
    let (f'', g'') = one_of_rules (EndsWith l w) b in
    (λ s. f'' (f' (g s)), λ s. f (g' (g'' s)))

-- One rule more, with a label that is not there yet.
distinct_snoc : (rs : List Rule) (r : Rule) → Distinct rs → ¬ OneOf (λ q. q.label ≡ r.label) rs → Distinct (rs ++ (r ∷ []))
distinct_snoc [] r d n = (λ o. o, tt)
distinct_snoc (u ∷ us) r d n = (λ o. go (one_of_append (λ q. q.label ≡ u.label) us (r ∷ []) o), distinct_snoc us r d.1 (λ o. n (inr o)))
  where
    go : OneOf (λ q. q.label ≡ u.label) us ⊎ OneOf (λ q. q.label ≡ u.label) (r ∷ []) → ⊥
    go (inl o) = d.0 o
    go (inr (inl e)) = n (inl (sym e))
    go (inr (inr o)) = o

-- Rules of which no label is one before are distinct.
distinct_list : (n : ℕ) (f : ℕ → Rule) → ((i j : ℕ) → i < n → j < i → ¬ ((f j).label ≡ (f i).label)) → Distinct (list n f)
distinct_list zero f h = tt
distinct_list (suc n) f h =
    distinct_snoc (list n f) (f n) (distinct_list n f (λ i j hi. h i j (omega arith)))
    (λ o. let (j, l, e) = (one_of_list (λ q. q.label ≡ (f n).label) n f).0 o in h n j (omega arith) l e)

-- What acceptance says of a word list.
pub record Accepted (b : List ℕ) : Type 0 where
  pub some : 0 < length (rules b)
  pub sizes : (i : ℕ) → i < count b → (1 ≤ size b i) × (size b i ≤ 32)
  pub ending : string_at b (count b) ≡ length b
  pub labelled : (i : ℕ) → i < count b → ¬ (label b i ≡ 0)
  pub distinct : Distinct (rules b)
  pub few_labels : (s : ℕ) → s < length (names (rules b)) → length (labels_ending (rules b) (get_or (names (rules b)) s [])) ≤ 16
  pub few_states : length (names (rules b)) ≤ 512

-- What no ground 27 says.
listed-labels : (b : List ℕ) → list_labels_bad b ≡ false → (i : ℕ) → i < count b → (¬ (label b i ≡ 0)) × ((j : ℕ) → j < i → ¬ (label b j ≡ label b i))
unfolding list_labels_bad
listed-labels b e i h =
    let w = any_at (count b) i (λ i. eqb (label b i) 0 || any i (λ j. eqb (label b j) (label b i))) e h in
    let (p, q) = or_both (eqb (label b i) 0) (any i (λ j. eqb (label b j) (label b i))) w in
    (eqb-false (label b i) 0 p, λ j l. eqb-false (label b j) (label b i) (any_at i j (λ j. eqb (label b j) (label b i)) q l))

-- What no ground 19 says.
listed_few : (rs : List Rule) → too_many_labels rs ≡ false → (s : ℕ) → s < length (names rs) → length (labels_ending rs (get_or (names rs) s [])) ≤ 16
unfolding too_many_labels
listed_few rs e s h =
    ltb-false 16 (length (labels_ending rs (get_or (names rs) s []))) (any_at (length (names rs)) s (λ s. ltb 16 (length (labels_ending rs (get_or (names rs) s [])))) e h)

-- The labels of the rules are distinct.
listed_distinct : (b : List ℕ) → list_labels_bad b ≡ false → Distinct (rules b)
unfolding rules
listed_distinct b e = distinct_list (count b) (rule_at b) (λ i j h. (listed-labels b e i h).1 j)

-- Where strings refuses nothing, all of it holds.
pub listed : (b : List ℕ) (room : ℕ) → first (strings_grounds b room) ≡ 0 → Accepted b
unfolding strings_grounds
listed b room e =
    let (g₂₆, (g₂₇, (g₁₉, (g₂₈, rest)))) = accepted (strings_grounds b room) refl e in
    let S = shaped b g₂₆ in
    record {
      some = omega (arith, rules-length b, S.some);
      sizes = S.sizes;
      ending = S.ending;
      labelled = λ i h. (listed-labels b g₂₇ i h).0;
      distinct = listed_distinct b g₂₇;
      few_labels = listed_few (rules b) g₁₉;
      few_states = ltb-false 512 (length (names (rules b))) g₂₈;
    }
