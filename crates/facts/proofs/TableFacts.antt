-- An accepted table as plain facts, and back.
use mathlib.Core.Path.{◌≡◌, refl}
use mathlib.Core.Bool.{Bool, false, not, ◌||◌}
use mathlib.Core.List.{List}
use Prim.Native.Nat.{ℕ, ◌≤◌, ◌<◌}
use native.Mathlib.Omega.{arith}
use lib.Dec.{leb, eqb}
use lib.ListN.{length}
use borrow.Author.Tests.{leb-false, le-ltb, lt-leb, not-false, eqb-true, eq-eqb}
use Rattle.paper.specs.Below.{any}
use Rattle.paper.specs.Table.{edition, states, classes, start, class_of, labels, behind, next, classes_bad_of, table_length, table_grounds}
use Rattle.paper.specs.Operations.{judge_table_of}
use Rattle.paper.specs.Sentences.{Some}
use Rattle.paper.proofs.Below.{any_at, any_none, any_found, any_some}
use Rattle.paper.proofs.Refusals.{Clear, accepted, cleared}
use Rattle.paper.proofs.Tests.{or_both, or_neither, not_differ, same_differ}
use Rattle.facts.proofs.CountFacts.{InRange, in_range, in_range_clear}
use Rattle.facts.proofs.LabelFacts.{Labelled, behind_bound, labels_right, labels_clear}

-- Each of so many bytes has a class below k, and each class below k has a byte.
pub record Classed (bytes k : ℕ) (class_of : ℕ → ℕ) : Type 0 where
  pub below : (x : ℕ) → x < bytes → class_of x < k
  pub used : (c : ℕ) → c < k → Some bytes (λ x. class_of x ≡ c)

module _ (bytes k : ℕ) (class_of : ℕ → ℕ) where
  -- The test of ground 7 over so many bytes.
  abbrev bad : Bool
  bad = any bytes (λ x. leb k (class_of x)) || any k (λ c. not (any bytes (λ x. eqb (class_of x) c)))

  classed_among : bad ≡ false → Classed bytes k class_of
  classed_among e =
      let (a, b) = or_both (any bytes (λ x. leb k (class_of x))) (any k (λ c. not (any bytes (λ x. eqb (class_of x) c)))) e in
      record {
        below = λ x h. leb-false k (class_of x) (any_at bytes x (λ x. leb k (class_of x)) a h);
        used = λ c h.
            let q = any_at k c (λ c. not (any bytes (λ x. eqb (class_of x) c))) b h in
            let (x, hx, w) = any_some bytes (λ x. eqb (class_of x) c) (not-false (any bytes (λ x. eqb (class_of x) c)) q) in
            (x, hx, eqb-true (class_of x) c w);
      }

  among_classed : Classed bytes k class_of → bad ≡ false
  among_classed C =
      or_neither (any bytes (λ x. leb k (class_of x))) (any k (λ c. not (any bytes (λ x. eqb (class_of x) c))))
      (any_none bytes (λ x. leb k (class_of x)) (λ x h. lt-leb k (class_of x) (C.below x h)))
      (any_none k (λ c. not (any bytes (λ x. eqb (class_of x) c)))
      (λ c h. let (x, hx, e) = C.used c h in rw (any_found bytes x (λ x. eqb (class_of x) c) hx (eq-eqb (class_of x) c e))))

-- Ground 7 does not apply just where every byte has a class below k and every class below k has a byte.
pub classed : (k : ℕ) (class_of : ℕ → ℕ) → classes_bad_of k class_of ≡ false → Classed 256 k class_of
classed = classed_among 256

-- And the other way.
pub classed_clear : (k : ℕ) (class_of : ℕ → ℕ) → Classed 256 k class_of → classes_bad_of k class_of ≡ false
classed_clear = among_classed 256

-- What an accepted table is known to be.
pub record AcceptedTable (t : List ℕ) : Type 0 where
  pub some_states : 1 ≤ states t
  pub few_states : states t ≤ 512
  pub some_classes : 1 ≤ classes t
  pub few_classes : classes t ≤ 256
  pub long : length t ≡ table_length (states t) (classes t) (behind t)
  pub begins : start t < states t
  pub all_classed : Classed 256 (classes t) (class_of t)
  pub all_labelled : (s : ℕ) → s < states t → Labelled (edition t) (labels t s)
  pub inside : (s c : ℕ) → s < states t → c < classes t → next t s c < states t

-- Its counts are in range.
table_range : (t : List ℕ) → AcceptedTable t → InRange (states t) (classes t)
table_range t A = record { some_states = A.some_states; few_states = A.few_states; some_classes = A.some_classes; few_classes = A.few_classes }

table_facts : (t : List ℕ) → Clear (table_grounds t) → AcceptedTable t
unfolding table_grounds labels
table_facts t (_, (g₂, (counts, (g₃, (g₆, (g₇, (g₁₉, (g₁₀, _)))))))) =
    let n = states t in
    let k = classes t in
    let R = in_range n k g₂ in
    let long : length t ≡ table_length n k (behind t) = not_differ (length t) (table_length n k (behind t)) g₃ in
    record {
      some_states = R.some_states;
      few_states = R.few_states;
      some_classes = R.some_classes;
      few_classes = R.few_classes;
      long = long;
      begins = leb-false n (start t) g₆;
      all_classed = classed k (class_of t) g₇;
      all_labelled = labels_right t 262 n (edition t) (omega arith) counts g₁₉;
      inside = λ s c hs hc. leb-false n (next t s c) (any_at k c (λ c. leb n (next t s c)) (any_at n s (λ s. any k (λ c. leb n (next t s c))) g₁₀ hs) hc);
    }

-- No ground applies to a table of which the facts hold.
pub table_clear : (t : List ℕ) → AcceptedTable t → Clear (table_grounds t)
unfolding table_grounds labels
table_clear t A =
    let n = states t in
    let k = classes t in
    let (counts, g₁₉) = labels_clear t 262 n (edition t) A.all_labelled in (
      le-ltb (length t) 6 (omega (arith, A.long)),
      (
        in_range_clear (table_range t A),
        (
          counts,
          (
            same_differ (length t) (table_length n k (behind t)) A.long,
            (
              lt-leb n (start t) A.begins,
              (
                classed_clear k (class_of t) A.all_classed,
                (
                  g₁₉,
                  (
                    any_none n (λ s. any k (λ c. leb n (next t s c))) (λ s hs. any_none k (λ c. leb n (next t s c)) (λ c hc. lt-leb n (next t s c) (A.inside s c hs hc))),
                    refl,
                  ),
                ),
              ),
            ),
          ),
        ),
      ),
    )

-- At most 8,192 labels stand behind their counts.
pub table_few_labels : (t : List ℕ) → AcceptedTable t → behind t ≤ 8192
unfolding labels
table_few_labels t A =
    let n = states t in
    omega (arith, A.few_states, behind_bound t 262 n (edition t) (omega (arith, A.long)) (labels_clear t 262 n (edition t) A.all_labelled).0)

-- A table is accepted just where it is so.
pub accepted_table : (t : List ℕ) → judge_table_of t ≡ 0 → AcceptedTable t
unfolding judge_table_of table_grounds
accepted_table t e = table_facts t (accepted (table_grounds t) refl e)

-- And the other way.
pub table_accepted : (t : List ℕ) → AcceptedTable t → judge_table_of t ≡ 0
unfolding judge_table_of
table_accepted t A = cleared (table_grounds t) (table_clear t A)
