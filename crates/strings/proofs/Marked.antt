-- Marks for the bytes in use, and the classes that they give.
use mathlib.Core.Path.{◌≡◌, refl, sym, ap, ◌∙◌}
use mathlib.Core.Bool.{Bool, true, false, not, ◌||◌, or-false, or_assoc}
use mathlib.Core.List.{List, [], ◌∷◌, ◌++◌}
use Prim.Native.Nat.{ℕ, ◌+◌, ◌<◌}
use native.Mathlib.Numerals.{add-one}
use native.Mathlib.Omega.{arith}
use lib.Dec.{eqb}
use lib.ListN.{length, get_or}
use Rattle.paper.specs.Below.{any, bit, how_many_of, list}
use Rattle.paper.specs.Strings.{Rule, rules, count, string, used, spare, classes, class_of}
use Rattle.paper.proofs.Below.{any_same}
use Rattle.strings.proofs.Used.{Holds, held_used}
use Rattle.strings.proofs.Listed.{rule_at, one_of_rules}
use Rattle.strings.proofs.Classes.{class_used, class_unused}

-- A byte is marked just where it stands in the string of some rule.
abbrev pub Marked : List Rule → List Bool → Type 0
Marked rs marks = (x : ℕ) → x < 256 → get_or marks x false ≡ used rs x

-- A rule more uses the bytes of its string.
used_more : (rs : List Rule) (r : Rule) (x : ℕ) → used (rs ++ (r ∷ [])) x ≡ used rs x || any (length r.string) (λ j. eqb (get_or r.string j 0) x)
used_more [] r x = or-false (any (length r.string) (λ j. eqb (get_or r.string j 0) x))
used_more (q ∷ rs) r x =
    ap (λ (t : Bool). any (length q.string) (λ j. eqb (get_or q.string j 0) x) || t) (used_more rs r x)
    ∙ sym (or_assoc (any (length q.string) (λ j. eqb (get_or q.string j 0) x)) (used rs x) (any (length r.string) (λ j. eqb (get_or r.string j 0) x)))

module _ (b : List ℕ) where
  -- The bytes of a string are used.
  pub string-used : (i j : ℕ) → i < count b → j < length (string b i) → used (rules b) (get_or (string b i) j 0) ≡ true
  string-used i j h hj =
      let x : ℕ = get_or (string b i) j 0 in
      held_used (rules b) x ((one_of_rules (Holds x) b).1 (i, h, (j, hj, refl)))

  -- With the marks of one string more.
  pub marked_more : (i : ℕ) (marks marks' : List Bool)
      → ((x : ℕ) → x < 256 → get_or marks' x false ≡ get_or marks x false || any (length (string b i)) (λ j. eqb (get_or (string b i) j 0) x))
      → Marked (list i (rule_at b)) marks → Marked (list (i + 1) (rule_at b)) marks'
  marked_more i marks marks' f M x hx =
      rw (add-one i) (f x hx ∙ ap (λ (t : Bool). t || any (length (string b i)) (λ j. eqb (get_or (string b i) j 0) x)) (M x hx) ∙ sym (used_more (list i (rule_at b)) (rule_at b i) x))

  -- With those of all strings.
  pub marked_all : (i : ℕ) (marks : List Bool) → i ≡ count b → Marked (list i (rule_at b)) marks → Marked (rules b) marks
  unfolding rules
  marked_all i marks e M x hx = M x hx ∙ ap (λ (m : ℕ). used (list m (rule_at b)) x) e

-- Whether a class is kept is seen of the marks.
pub spare-marked : (rs : List Rule) (marks : List Bool) → Marked rs marks → bit (any 256 (λ x. not (get_or marks x false))) ≡ spare rs
unfolding spare
spare-marked rs marks M = ap bit (any_same 256 (λ x. not (get_or marks x false)) (λ x. not (used rs x)) (λ x h. ap not (M x h)))

module _ (rs : List Rule) where
  -- A byte in use takes the next class,
  pub class_takes : (x k : ℕ) → used rs x ≡ true → k ≡ spare rs + how_many_of x (used rs) → (k ≡ class_of rs x) × (k + 1 ≡ spare rs + how_many_of (x + 1) (used rs))
  class_takes x k u e = (e ∙ sym (class_used rs x u), rw (add-one x, u) (omega arith))

  -- and any other class 0.
  pub class_skips : (x k : ℕ) → used rs x ≡ false → k ≡ spare rs + how_many_of x (used rs) → (0 ≡ class_of rs x) × (k ≡ spare rs + how_many_of (x + 1) (used rs))
  class_skips x k u e = (sym (class_unused rs x u), rw (add-one x, u) (omega arith))

  -- After all bytes that is k.
  pub class_count : (x k : ℕ) → x ≡ 256 → k ≡ spare rs + how_many_of x (used rs) → k ≡ classes rs
  unfolding classes
  class_count x k e q = q ∙ ap (λ (m : ℕ). spare rs + how_many_of m (used rs)) e
