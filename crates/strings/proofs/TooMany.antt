-- More than 16 labels on a state, decided on the strings with no number of a state in it: some beginning of some string has so many, and then some string has.
use mathlib.Core.Path.{◌≡◌, refl, sym, ap, ◌∙◌}
use mathlib.Core.Bool.{Bool, true, false, cond, ◌||◌}
use mathlib.Core.Logic.{◌↔◌}
use mathlib.Core.List.{List, [], ◌∷◌, ◌++◌}
use Prim.Native.Nat.{ℕ, zero, suc, ◌+◌, ◌<◌}
use native.Mathlib.Omega.{arith}
use lib.Dec.{ltb, leb}
use lib.ListN.{length, get_or, take, drop, length-append, take-append-drop}
use lib.Seq.{take_at, take_all}
use borrow.Author.Tests.{lt-ltb, ltb-true}
use Rattle.paper.specs.Below.{any, bit, how_many_of, same, list}
use Rattle.paper.specs.Strings.{Rule, rules, count, string, among, number_of, names, ends, inserted, labels_ending, too_many_labels}
use Rattle.paper.specs.Sentences.{Some}
use Rattle.paper.proofs.Below.{any_found, any_some, any_at}
use Rattle.paper.proofs.Sums.{sum_same, sum_zero}
use Rattle.strings.proofs.Same.{same_eq}
use Rattle.strings.proofs.Among.{among-get_or, number_of_below}
use Rattle.strings.proofs.OneOf.{OneOf, one_of_map, one_of_pick}
use Rattle.strings.proofs.Names.{Begins, names_begin, name_of_number}
use Rattle.strings.proofs.Snoc.{both_ways}
use Rattle.strings.proofs.Listed.{rule_at, one_of_rules}

-- An insertion makes a list longer by one.
inserted-length : (l : ℕ) (ms : List ℕ) → length (inserted l ms) ≡ suc (length ms)
inserted-length l [] = refl
inserted-length l (m ∷ ms) = go (leb l m) (inserted-length l ms)
  where
    go : (b : Bool) → length (inserted l ms) ≡ suc (length ms) → length (cond b (l ∷ m ∷ ms) (m ∷ inserted l ms)) ≡ suc (suc (length ms))
    go true ih = refl
    go false ih = ap suc ih

-- One rule more gives one label more where its string ends there.
labels_snoc : (rs : List Rule) (r : Rule) (w : List ℕ) → length (labels_ending (rs ++ (r ∷ [])) w) ≡ length (labels_ending rs w) + bit (ends r.string w)
labels_snoc [] r w = go (ends r.string w)
  where
    go : (b : Bool) → length (cond b (inserted r.label []) []) ≡ 0 + bit b
    go true = refl
    go false = refl
labels_snoc (q ∷ rs) r w = go (ends q.string w) (labels_snoc rs r w)
  where
    go : (b : Bool) → length (labels_ending (rs ++ (r ∷ [])) w) ≡ length (labels_ending rs w) + bit (ends r.string w)
        → length (cond b (inserted q.label (labels_ending (rs ++ (r ∷ [])) w)) (labels_ending (rs ++ (r ∷ [])) w))
        ≡ length (cond b (inserted q.label (labels_ending rs w)) (labels_ending rs w)) + bit (ends r.string w)
    go true ih = omega (arith, inserted-length q.label (labels_ending (rs ++ (r ∷ [])) w), inserted-length q.label (labels_ending rs w))
    go false ih = ih

-- A string has as many labels as strings end it.
labels-list : (n : ℕ) (f : ℕ → Rule) (w : List ℕ) → length (labels_ending (list n f) w) ≡ how_many_of n (λ i. ends (f i).string w)
labels-list zero f w = refl
labels-list (suc n) f w = labels_snoc (list n f) (f n) w ∙ ap (λ (m : ℕ). m + bit (ends (f n).string w)) (labels-list n f w)

-- So in a word list.
pub labels_counted : (b w : List ℕ) → length (labels_ending (rules b) w) ≡ how_many_of (count b) (λ i. ends (string b i) w)
unfolding rules
labels_counted b w = labels-list (count b) (rule_at b) w

-- Some beginning of the rule's string has more than 16 labels.
abbrev pub Crowded : List Rule → Rule → Type 0
Crowded rs r = Some (suc (length r.string)) (λ j. 16 < length (labels_ending rs (take j r.string)))

-- Some state has more than 16 labels just where some rule is so.
pub too_many : (rs : List Rule) → too_many_labels rs ≡ true ↔ OneOf (Crowded rs) rs
unfolding too_many_labels
too_many rs = (forth, back)
  where
    crowd : ℕ → Bool
    crowd s = ltb 16 (length (labels_ending rs (get_or (names rs) s [])))

    forth : any (length (names rs)) crowd ≡ true → OneOf (Crowded rs) rs
    forth e =
        let (s, h, q) = any_some (length (names rs)) crowd e in
        let w : List ℕ = get_or (names rs) s [] in
        let m : 16 < length (labels_ending rs w) = ltb-true 16 (length (labels_ending rs w)) q in
        one_of_map (Begins w) (Crowded rs) rs
        (λ r p. (length w, omega (arith, ap length p.1, length-append w p.0), rw (p.1, take_at w p.0 (length w) refl) m))
        ((names_begin rs w).0 (among-get_or (names rs) s h))

    back : OneOf (Crowded rs) rs → any (length (names rs)) crowd ≡ true
    back o =
        let (r, (j, h, m), i) = one_of_pick (Crowded rs) rs o in
        let w : List ℕ = take j r.string in
        let starts : (q : Rule) → q ≡ r → Begins w q = λ q e. (drop j r.string, ap (λ (p : Rule). p.string) e ∙ sym (take-append-drop j r.string)) in
        let a : among w (names rs) ≡ true = (names_begin rs w).1 (one_of_map (λ q. q ≡ r) (Begins w) rs starts i) in
        any_found (length (names rs)) (number_of w (names rs)) crowd (number_of_below w (names rs) a)
        (lt-ltb 16 (length (labels_ending rs (get_or (names rs) (number_of w (names rs)) []))) (rw (name_of_number rs w a) m))

module _ (n : ℕ) (f : ℕ → List ℕ) where
  -- How many of n strings end a string.
  abbrev enders : List ℕ → ℕ
  enders w = how_many_of n (λ q. ends (f q) w)

  -- Where one of the strings is the string itself, that one is ended by as many.
  itself : (w : List ℕ) → 16 < enders w → any n (λ i. same (f i) w) ≡ true → any n (λ i. ltb 16 (enders (f i))) ≡ true
  itself w m e =
      let (i, h, q) = any_some n (λ i. same (f i) w) e in
      any_found n i (λ i. ltb 16 (enders (f i))) h (lt-ltb 16 (enders (f i)) (rw (same_eq (f i) w q) m))

  -- What more than 16 of the strings end, one of them is so too: the longest that ends it. Where none is the string itself, all that end it end it without its first byte.
  whole_enough : (w : List ℕ) → 16 < enders w → any n (λ i. ltb 16 (enders (f i))) ≡ true
  whole_enough [] m = go (any n (λ i. same (f i) [])) refl
    where
      go : (b : Bool) → any n (λ i. same (f i) []) ≡ b → any n (λ i. ltb 16 (enders (f i))) ≡ true
      go true e = itself [] m e
      go false e = absurd (omega (arith, sum_zero n (λ q. bit (ends (f q) [])) (λ q h. ap bit (any_at n q (λ i. same (f i) []) e h))))
  whole_enough (x ∷ xs) m = go (any n (λ i. same (f i) (x ∷ xs))) refl (whole_enough xs)
    where
      go : (b : Bool) → any n (λ i. same (f i) (x ∷ xs)) ≡ b → (16 < enders xs → any n (λ i. ltb 16 (enders (f i))) ≡ true) → any n (λ i. ltb 16 (enders (f i))) ≡ true
      go true e ih = itself (x ∷ xs) m e
      go false e ih =
          ih
          (omega (arith, sum_same n (λ q. bit (ends (f q) (x ∷ xs))) (λ q. bit (ends (f q) xs)) (λ q h. ap (λ (b : Bool). bit (b || ends (f q) xs)) (any_at n q (λ i. same (f i) (x ∷ xs)) e h))))

-- The test that code makes: some string is ended by more than 16 strings.
unfoldable pub crowded : List ℕ → Bool
crowded b = any (count b) (λ i. ltb 16 (how_many_of (count b) (λ q. ends (string b q) (string b i))))

-- It is ground 19.
pub too_many_strings : (b : List ℕ) → too_many_labels (rules b) ≡ crowded b
unfolding crowded
too_many_strings b = both_ways (too_many_labels (rules b)) (any (count b) some) forth back
  where
    some : ℕ → Bool
    some i = ltb 16 (how_many_of (count b) (λ q. ends (string b q) (string b i)))

    forth : too_many_labels (rules b) ≡ true → any (count b) some ≡ true
    forth e =
        let (i, h, (j, l, m)) = (one_of_rules (Crowded (rules b)) b).0 ((too_many (rules b)).0 e) in
        whole_enough (count b) (string b) (take j (string b i)) (rw (← labels_counted b (take j (string b i))) m)

    back : any (count b) some ≡ true → too_many_labels (rules b) ≡ true
    back e =
        let (i, h, m) = any_some (count b) some e in
        let w : take (length (string b i)) (string b i) ≡ string b i = take_all (length (string b i)) (string b i) (omega arith) in
        (too_many (rules b)).1
        ((one_of_rules (Crowded (rules b)) b).1
        (i, h, (length (string b i), omega arith, rw (w, labels_counted b (string b i)) (ltb-true 16 (how_many_of (count b) (λ q. ends (string b q) (string b i))) m))))
