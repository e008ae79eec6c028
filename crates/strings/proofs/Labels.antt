-- The labels of the strings that end a string: just those, rising, and the same for a string and for its longest ending that is a name.
use mathlib.Core.Path.{◌≡◌, refl, sym, ap, ◌∙◌}
use mathlib.Core.Bool.{Bool, true, false, cond, true≢false}
use mathlib.Core.Logic.{inl, inr, ⊎_elim, ◌↔◌}
use mathlib.Core.List.{List, [], ◌∷◌, append-nil}
use Prim.Native.Nat.{ℕ}
use Rattle.paper.specs.Strings.{Rule, among, names, longest_ending_of, ends, inserted, labels_ending}
use Rattle.paper.specs.Endings.{EndingOf}
use Rattle.strings.proofs.Same.{same_eq}
use Rattle.strings.proofs.OneOf.{OneOf, one_of_map}
use Rattle.strings.proofs.Names.{Begins, names_begin}
use Rattle.strings.proofs.Endings.{ends-longest}
use Rattle.strings.proofs.Longest.{ends_ending, ending_ends}
use Rattle.strings.proofs.Inserted.{In, in_inserted, Rising, rising_inserted}

-- The rule is one of the list.
abbrev pub Of : Rule → List Rule → Type 0
Of r rs = OneOf (λ q. q ≡ r) rs

-- The string of a rule is a name.
pub string_is_name : (rs : List Rule) (r : Rule) → Of r rs → among r.string (names rs) ≡ true
string_is_name rs r o =
    (names_begin rs r.string).1 (one_of_map (λ q. q ≡ r) (Begins r.string) rs (λ q e. ([], ap (λ (p : Rule). p.string) e ∙ sym (append-nil r.string))) o)

-- Of two strings that the same strings end the labels are the same.
pub labels_same : (rs : List Rule) (v w : List ℕ) → ((r : Rule) → Of r rs → ends r.string v ≡ ends r.string w) → labels_ending rs v ≡ labels_ending rs w
labels_same [] v w h = refl
labels_same (r ∷ rs) v w h = rw (h r (inl refl), labels_same rs v w (λ q o. h q (inr o))) refl

-- A string of a rule ends a string just where it ends that string's longest ending that is a name.
pub rule_ends-longest : (rs : List Rule) (r : Rule) → Of r rs → (w : List ℕ) → ends r.string (longest_ending_of (names rs) w) ≡ ends r.string w
rule_ends-longest rs r o w =
    ends-longest (names rs) r.string (λ v e. ap (λ (l : List ℕ). among l (names rs)) (sym (same_eq r.string v e)) ∙ string_is_name rs r o) w

-- So the labels of a state are those of all strings that end what was read.
pub labels-longest : (rs : List Rule) (w : List ℕ) → labels_ending rs (longest_ending_of (names rs) w) ≡ labels_ending rs w
labels-longest rs w = labels_same rs (longest_ending_of (names rs) w) w (λ r o. rule_ends-longest rs r o w)

-- The rule has the label, and its string ends the string.
abbrev pub EndsWith : ℕ → List ℕ → Rule → Type 0
EndsWith l w r = (r.label ≡ l) × EndingOf r.string w

-- A label is among those just where it is the label of a rule whose string ends there.
pub in_labels : (l : ℕ) (rs : List Rule) (w : List ℕ) → In l (labels_ending rs w) ↔ OneOf (EndsWith l w) rs
in_labels l [] w = (λ i. i, λ i. i)
in_labels l (r ∷ rs) w = let (f, g) = in_labels l rs w in (forth (ends r.string w) refl f, back (ends r.string w) refl g)
  where
    forth : (b : Bool) → ends r.string w ≡ b → (In l (labels_ending rs w) → OneOf (EndsWith l w) rs)
        → In l (cond b (inserted r.label (labels_ending rs w)) (labels_ending rs w)) → OneOf (EndsWith l w) (r ∷ rs)
    forth true q f i = ⊎_elim (λ e. inl (e, ends_ending r.string w q)) (λ j. inr (f j)) ((in_inserted l r.label (labels_ending rs w)).0 i)
    forth false q f i = inr (f i)

    back : (b : Bool) → ends r.string w ≡ b → (OneOf (EndsWith l w) rs → In l (labels_ending rs w))
        → OneOf (EndsWith l w) (r ∷ rs) → In l (cond b (inserted r.label (labels_ending rs w)) (labels_ending rs w))
    back true q g (inl (e, n)) = (in_inserted l r.label (labels_ending rs w)).1 (inl e)
    back true q g (inr o) = (in_inserted l r.label (labels_ending rs w)).1 (inr (g o))
    back false q g (inl (e, n)) = absurd (true≢false (sym (ending_ends r.string w n) ∙ q))
    back false q g (inr o) = g o

-- No label stands twice.
abbrev pub Distinct : List Rule → Type 0
Distinct [] = Unit {0}
Distinct (r ∷ rs) = (¬ OneOf (λ q. q.label ≡ r.label) rs) × Distinct rs

-- Where no label stands twice the labels rise.
pub labels_rising : (rs : List Rule) (w : List ℕ) → Distinct rs → Rising (labels_ending rs w)
labels_rising [] w d = tt
labels_rising (r ∷ rs) w d = go (ends r.string w) (labels_rising rs w d.1)
  where
    new : ¬ In r.label (labels_ending rs w)
    new i = d.0 (one_of_map (EndsWith r.label w) (λ q. q.label ≡ r.label) rs (λ q p. p.0) ((in_labels r.label rs w).0 i))

    go : (b : Bool) → Rising (labels_ending rs w) → Rising (cond b (inserted r.label (labels_ending rs w)) (labels_ending rs w))
    go true ih = rising_inserted r.label (labels_ending rs w) new ih
    go false ih = ih
