-- The grounds of a table that are left from each on, for the first word, the counts and the start state that were read.
use mathlib.Core.Path.{◌≡◌, refl, sym, ap₂}
use mathlib.Core.Bool.{true, false, ◌||◌}
use mathlib.Core.List.{List, [], ◌∷◌}
use Prim.Native.Nat.{ℕ, ◌+◌, ◌*◌, ◌≤◌, ◌<◌}
use native.Mathlib.Omega.{arith}
use lib.Dec.{ltb, leb}
use lib.ListN.{length}
use borrow.Author.Tests.{lt-ltb, le-ltb}
use Rattle.paper.specs.Below.{any, differ, outside}
use Rattle.paper.specs.Refusals.{Ground}
use Rattle.paper.specs.Labels.{Edition, labels_behind, counts_bad_of, labels_bad_of}
use Rattle.paper.specs.Table.{edition, states, classes, start, class_of, behind, next, table_length, classes_bad_of, table_grounds}
use Rattle.paper.specs.Operations.{judge_table_of}
use Rattle.paper.proofs.Tests.{holds_differ}
use Rattle.facts.proofs.CountFacts.{InRange}
use Rattle.facts.proofs.LabelFacts.{behind_bound}
use Rattle.table.specs.Counted.{Counted}
use Rattle.table.proofs.Decided.{Decided, passed, applies}

module _ (t : List ℕ) (e : Edition) (n k s : ℕ) where
  -- Ground 10.
  abbrev pub from10 : List Ground
  from10 = (10, any n (λ s. any k (λ c. leb n (next t s c)))) ∷ []

  -- Ground 19 for the labels, and 10.
  abbrev pub from_labels : List Ground
  from_labels = (19, labels_bad_of t 262 n e) ∷ from10

  -- Grounds 7 to 10.
  abbrev pub from7 : List Ground
  from7 = (7, classes_bad_of k (class_of t)) ∷ from_labels

  -- Grounds 6 to 10.
  abbrev pub from6 : List Ground
  from6 = (6, leb n s) ∷ from7

  -- Grounds 3 to 10.
  abbrev pub from3 : List Ground
  from3 = (3, differ (length t) (table_length n k (labels_behind t 262 n e))) ∷ from6

  -- Ground 19 for the counts, and 3 to 10.
  abbrev pub from_counts : List Ground
  from_counts = (19, counts_bad_of t 262 n e) ∷ from3

  -- Grounds 2 to 10.
  abbrev pub from2 : List Ground
  from2 = (2, outside 1 512 n || outside 1 256 k) ∷ from_counts

-- All grounds.
all_grounds : (t : List ℕ) → Decided (judge_table_of t) ((1, ltb (length t) 6) ∷ from2 t (edition t) (states t) (classes t) (start t))
unfolding judge_table_of table_grounds
all_grounds t = record { decided = refl }

-- A table under 6 bytes.
pub short : (t : List ℕ) → length t < 6 → 1 ≡ judge_table_of t
unfolding judge_table_of table_grounds
short t h = applies (all_grounds t) (lt-ltb (length t) 6 h)

-- A table of 6 bytes or more, whose first word, counts and start state were read.
pub not_short : (t : List ℕ) (e : Edition) (n k s : ℕ) → 6 ≤ length t → e ≡ edition t → n ≡ states t → k ≡ classes t → s ≡ start t → Decided (judge_table_of t) (from2 t e n k s)
not_short t e n k s h ee en ek es = rw (en, ee, ek, es) (passed (all_grounds t) (le-ltb (length t) 6 h))

-- A table that ends inside its counts of labels has not its length.
pub cut_short : (t : List ℕ) (n k behind : ℕ) → length t < 262 + 2 * n → true ≡ differ (length t) (table_length n k behind)
cut_short t n k behind h = sym ((holds_differ (length t) (table_length n k behind)).1 (λ e. omega arith))

-- Past ground 3 the table has its counts.
pub counted_so : (t : List ℕ) (e : Edition) (n k : ℕ) → e ≡ edition t → n ≡ states t → k ≡ classes t → InRange n k → counts_bad_of t 262 n e ≡ false
    → length t ≡ table_length n k (labels_behind t 262 n e) → Counted t n k
counted_so t e n k ee en ek R g long =
    let q : labels_behind t 262 n e ≡ behind t = ap₂ (labels_behind t 262) en ee in
    record {
      states_are = en;
      classes_are = ek;
      few_states = R.few_states;
      few_classes = R.few_classes;
      few_labels = omega (arith, R.few_states, behind_bound t 262 n e (omega arith) g);
      long = omega arith;
    }
