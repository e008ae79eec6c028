-- The first grounds of an image that are left from each on, for the first word, the counts and the start state that were read.
use mathlib.Core.Path.{◌≡◌, refl, sym, ap, ap₂, ◌∙◌}
use mathlib.Core.Bool.{true, false, ◌||◌}
use mathlib.Core.List.{List, [], ◌∷◌}
use Prim.Native.Nat.{ℕ, ◌+◌, ◌-◌, ◌*◌, ◌≤◌, ◌<◌}
use native.Mathlib.Omega.{arith}
use lib.Dec.{ltb, leb}
use lib.ListN.{length, take}
use borrow.Author.Tests.{lt-ltb, le-ltb}
use Rattle.paper.specs.Below.{any, sum, differ, outside}
use Rattle.paper.specs.Words.{number16, words, check_word_of}
use Rattle.paper.specs.Refusals.{Ground, first}
use Rattle.paper.specs.Labels.{Edition, labels_behind, counts_bad_of, labels_bad_of}
use Rattle.paper.specs.Table.{classes_bad_of}
use Rattle.paper.specs.View.{record_bad_of, entry_class_bad, any_entry, view_grounds}
use Rattle.paper.specs.Image.{edition, states, classes, start, entries, class_of, behind, count, distance_back, whole_length, check, image_length_of, image_view, image_grounds}
use Rattle.paper.proofs.Tests.{holds_differ, or_both, not_differ}
use Rattle.facts.proofs.LabelFacts.{behind_bound}
use Rattle.table.proofs.Decided.{Decided, passed, applies}
use Rattle.image.specs.Laid.{Laid}
use Rattle.contents.specs.Counted.{Counted}
use Rattle.image.specs.Grounds.{first_grounds_of}

-- Ground 10.
abbrev pub from10 : List ℕ → List Ground
from10 b = (10, any_entry (image_view b) (λ s j. leb (states b) ((image_view b).entry_next s j))) ∷ []

-- Grounds 9 and 10.
abbrev pub from9 : List ℕ → List Ground
from9 b = (9, any_entry (image_view b) (entry_class_bad (image_view b))) ∷ from10 b

-- Grounds 8 to 10.
abbrev pub from8 : List ℕ → List Ground
from8 b = (8, any (states b) (record_bad_of (image_view b)) || differ (sum (states b) (count b)) (entries b)) ∷ from9 b

module _ (b : List ℕ) (e : Edition) (n k m s : ℕ) where
  -- Ground 19 for the labels, and 8 to 10.
  abbrev pub from_labels : List Ground
  from_labels = (19, labels_bad_of b 268 n e) ∷ from8 b

  -- Grounds 7 to 10.
  abbrev pub from7 : List Ground
  from7 = (7, classes_bad_of k (class_of b)) ∷ from_labels

  -- Grounds 6 to 10.
  abbrev pub from6 : List Ground
  from6 = (6, leb n s) ∷ from7

  -- Grounds 5 to 10.
  abbrev pub from5 : List Ground
  from5 = (5, differ (check b) (check_word_of (words (take (length b - 2) b)))) ∷ from6

  -- Grounds 4 to 10.
  abbrev pub from4 : List Ground
  from4 = (4, differ (whole_length b) (length b) || differ (distance_back b) (4 * m + 12)) ∷ from5

  -- Grounds 3 to 10.
  abbrev pub from3 : List Ground
  from3 = (3, differ (length b) (image_length_of n m (labels_behind b 268 n e))) ∷ from4

  -- Ground 19 for the counts, and 3 to 10.
  abbrev pub from_counts : List Ground
  from_counts = (19, counts_bad_of b 268 n e) ∷ from3

  -- Grounds 2 to 10.
  abbrev pub from2 : List Ground
  from2 = (2, outside 1 512 n || (outside 1 256 k || outside k (n * k) m)) ∷ from_counts

-- All of them.
all_grounds : (b : List ℕ) → Decided (first (first_grounds_of b)) ((1, ltb (length b) 24) ∷ from2 b (edition b) (states b) (classes b) (entries b) (start b))
unfolding first_grounds_of image_grounds view_grounds
all_grounds b = record { decided = refl }

-- An image under 24 bytes.
pub short : (b : List ℕ) → length b < 24 → 1 ≡ first (first_grounds_of b)
short b h = applies (all_grounds b) (lt-ltb (length b) 24 h)

-- An image of 24 bytes or more, whose first word, counts and start state were read.
pub not_short : (b : List ℕ) (e : Edition) (n k m s : ℕ) → 24 ≤ length b → e ≡ edition b → n ≡ states b → k ≡ classes b → m ≡ entries b → s ≡ start b
    → Decided (first (first_grounds_of b)) (from2 b e n k m s)
not_short b e n k m s h ee en ek em es = rw (en, ee, ek, em, es) (passed (all_grounds b) (le-ltb (length b) 24 h))

-- An image that ends inside its counts of labels has not its length.
pub cut_short : (b : List ℕ) (n m behind : ℕ) → length b < 268 + 2 * n → true ≡ differ (length b) (image_length_of n m behind)
cut_short b n m behind h = sym ((holds_differ (length b) (image_length_of n m behind)).1 (λ e. omega arith))

-- Past ground 3 the image has its counts.
pub counted_so : (b : List ℕ) (e : Edition) (n m : ℕ) → e ≡ edition b → n ≡ states b → m ≡ entries b → n ≤ 512 → m ≤ 131072 → counts_bad_of b 268 n e ≡ false
    → length b ≡ image_length_of n m (labels_behind b 268 n e) → Counted b n m
counted_so b e n m ee en em few small g long =
    let q : labels_behind b 268 n e ≡ behind b = ap₂ (labels_behind b 268) en ee in
    record {
      states_are = en;
      entries_are = em;
      few_states = few;
      few_entries = small;
      few_labels = omega (arith, behind_bound b 268 n e (omega arith) g);
      long = omega arith;
    }

-- Where ground 8 does not apply the records count the entries.
pub counts_laid : (b : List ℕ) (n m : ℕ) → Counted b n m → any (states b) (record_bad_of (image_view b)) || differ (sum (states b) (count b)) (entries b) ≡ false → Laid b
counts_laid b n m C e =
    let (_, sums) = or_both (any (states b) (record_bad_of (image_view b))) (differ (sum (states b) (count b)) (entries b)) e in
    record {
      few_states = omega (arith, C.states_are, C.few_states);
      few_entries = omega (arith, C.entries_are, C.few_entries);
      few_labels = C.few_labels;
      long = omega (arith, C.long, C.states_are, C.entries_are);
      counted = not_differ (sum (states b) (count b)) (entries b) sums;
    }
