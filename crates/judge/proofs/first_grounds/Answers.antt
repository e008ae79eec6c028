-- After each test the number is decided by the grounds that are left.
-- First stand the places past each ground: what was read there, the grounds that are left, and what is known of the image. The answers follow.
use mathlib.Core.Path.{refl, sym, ◌∙◌, ◌≡◌, ap}
use native.Mathlib.Omega.{arith}
use borrow.Author.Tests.{le-leb, lt-leb}
use Rattle.facts.proofs.CountFacts.{few_entries, AllInRange, all_in_range}
use Rattle.table.proofs.Decided.{passed, applies, none_left, Decided}
use Rattle.judge.proofs.Grounds.{short, from2, from_counts, from3, from4, from5, from6, from7, from_labels, from8, from9, from10, not_short, counted_so, counts_laid}
use mathlib.Core.List.{List}
use Prim.Native.Nat.{ℕ, ◌<◌}
use lib.ListN.{length}
use Rattle.paper.specs.Refusals.{Ground, first}
use Rattle.paper.specs.Labels.{Edition, edition_of, states_in_word, labels_behind}
use Rattle.paper.specs.Image.{edition, states, image_length_of}
use Rattle.labels.specs.Editions.{edition_in}
use Rattle.paper.proofs.Tests.{not_differ}
use Rattle.image.specs.Laid.{Laid}
use Rattle.image.specs.Grounds.{first_grounds_of}
use Rattle.contents.specs.Counted.{Counted}
use Rattle.judge.proofs.first_grounds.Goals as goal
use Rattle.judge.proofs.first_grounds.Goals.{After-get32-m, Else-check_bad, Else-classes_bad, Else-counts_bad, Else-counts_bad-2, Else-entry_classes_bad, Else-labels_bad, Else-length_bad, Else-n-start, Else-records_bad, Else-trailer_bad}

-- The image.
abbrev pub B : After-get32-m → List ℕ
B c = c.args.b.now

-- Its edition, by the first word that was read.
abbrev pub W : After-get32-m → Edition
W c = edition_in c.of-edition.result

-- The number of states that it gives.
abbrev pub N : After-get32-m → ℕ
N c = c.states_of-n.result

-- The number of classes that was read.
abbrev pub K : After-get32-m → ℕ
K c = c.get16-k.result

-- The start state that was read.
abbrev pub S : After-get32-m → ℕ
S c = c.get16-start.result

-- The number of entries that was read.
abbrev pub M : After-get32-m → ℕ
M c = c.get32-m.result

-- The edition is the image's.
pub edition_read : (c : After-get32-m) → W c ≡ edition (B c)
edition_read c = c.of-edition.ensures ∙ ap edition_of c.get16-word.ensures

-- The number of states is the image's.
pub states_read : (c : After-get32-m) → N c ≡ states (B c)
states_read c = c.states_of-n.ensures ∙ ap states_in_word c.get16-word.ensures

-- The grounds that are left, for what was read.
abbrev Left : (List ℕ → Edition → ℕ → ℕ → ℕ → ℕ → List Ground) → After-get32-m → Type 0
Left from r = Decided (first (first_grounds_of (B r))) (from (B r) (W r) (N r) (K r) (M r) (S r))

-- Past ground 1.
pub past₁ : (c : After-get32-m) → Left from2 c
past₁ c =
    not_short (B c) (W c) (N c) (K c) (M c) (S c) c.if-b-lt24.false (edition_read c)
    (states_read c) c.get16-k.ensures c.get32-m.ensures c.get16-start.ensures

-- Past ground 2.
pub past₂ : (c : Else-counts_bad) → Left from_counts (goal.at.Else-counts_bad c).After-get32-m
past₂ c = passed (past₁ (goal.at.Else-counts_bad c).After-get32-m) (sym c.counts_bad.ensures ∙ c.if-counts_bad.false)

-- Past ground 19 for the counts.
pub past_counts : (c : Else-counts_bad-2) → Left from3 (goal.at.Else-counts_bad-2 c).After-get32-m
past_counts c = passed (past₂ (goal.at.Else-counts_bad-2 c).Else-counts_bad) (sym c.counts_bad-2.ensures ∙ c.if-counts_bad-2.false)

-- Past ground 3.
pub past₃ : (c : Else-length_bad) → Left from4 (goal.at.Else-length_bad c).After-get32-m
past₃ c = passed (past_counts (goal.at.Else-length_bad c).Else-counts_bad-2) (sym c.length_bad.ensures ∙ c.if-length_bad.false)

-- Past ground 4.
pub past₄ : (c : Else-trailer_bad) → Left from5 (goal.at.Else-trailer_bad c).After-get32-m
past₄ c = passed (past₃ (goal.at.Else-trailer_bad c).Else-length_bad) (sym c.trailer_bad.ensures ∙ c.if-trailer_bad.false)

-- Past ground 5.
pub past₅ : (c : Else-check_bad) → Left from6 (goal.at.Else-check_bad c).After-get32-m
past₅ c = passed (past₄ (goal.at.Else-check_bad c).Else-trailer_bad) (sym c.check_bad.ensures ∙ c.if-check_bad.false)

-- Past ground 6.
pub past₆ : (c : Else-n-start) → Left from7 (goal.at.Else-n-start c).After-get32-m
past₆ c = passed (past₅ (goal.at.Else-n-start c).Else-check_bad) (lt-leb (N (goal.at.Else-n-start c).After-get32-m) (S (goal.at.Else-n-start c).After-get32-m) (omega arith))

-- Past ground 7.
pub past₇ : (c : Else-classes_bad) → Left from_labels (goal.at.Else-classes_bad c).After-get32-m
past₇ c = passed (past₆ (goal.at.Else-classes_bad c).Else-n-start) (sym c.classes_bad.ensures ∙ c.if-classes_bad.false)

-- Past ground 19 for the labels.
pub past_labels : (c : Else-labels_bad) → Decided (first (first_grounds_of (B (goal.at.Else-labels_bad c).After-get32-m))) (from8 (B (goal.at.Else-labels_bad c).After-get32-m))
past_labels c = passed (past₇ (goal.at.Else-labels_bad c).Else-classes_bad) (sym c.labels_bad.ensures ∙ c.if-labels_bad.false)

-- Past ground 8.
pub past₈ : (c : Else-records_bad) → Decided (first (first_grounds_of (B (goal.at.Else-records_bad c).After-get32-m))) (from9 (B (goal.at.Else-records_bad c).After-get32-m))
past₈ c = passed (past_labels (goal.at.Else-records_bad c).Else-labels_bad) (sym c.records_bad.ensures ∙ c.if-records_bad.false)

-- Past ground 9.
pub past₉ : (c : Else-entry_classes_bad) → Decided (first (first_grounds_of (B (goal.at.Else-entry_classes_bad c).After-get32-m))) (from10 (B (goal.at.Else-entry_classes_bad c).After-get32-m))
past₉ c = passed (past₈ (goal.at.Else-entry_classes_bad c).Else-records_bad) (sym c.entry_classes_bad.ensures ∙ c.if-entry_classes_bad.false)

-- Past ground 2 the counts are in range.
pub ranged : (c : Else-counts_bad) → AllInRange (N (goal.at.Else-counts_bad c).After-get32-m) (K (goal.at.Else-counts_bad c).After-get32-m) (M (goal.at.Else-counts_bad c).After-get32-m)
ranged c = all_in_range (N (goal.at.Else-counts_bad c).After-get32-m) (K (goal.at.Else-counts_bad c).After-get32-m) (M (goal.at.Else-counts_bad c).After-get32-m) (sym c.counts_bad.ensures ∙ c.if-counts_bad.false)

-- Past ground 3 the length is the one that they give.
pub long : (c : Else-length_bad) → length (B (goal.at.Else-length_bad c).After-get32-m) ≡ image_length_of (N (goal.at.Else-length_bad c).After-get32-m) (M (goal.at.Else-length_bad c).After-get32-m) (labels_behind (B (goal.at.Else-length_bad c).After-get32-m) 268 (N (goal.at.Else-length_bad c).After-get32-m) (W (goal.at.Else-length_bad c).After-get32-m))
long c = not_differ _ _ (sym c.length_bad.ensures ∙ c.if-length_bad.false)

-- So the image has its counts.
pub counted : (c : Else-length_bad) → Counted (B (goal.at.Else-length_bad c).After-get32-m) (N (goal.at.Else-length_bad c).After-get32-m) (M (goal.at.Else-length_bad c).After-get32-m)
counted c =
    let R = ranged (goal.at.Else-length_bad c).Else-counts_bad in
    counted_so (B (goal.at.Else-length_bad c).After-get32-m) (W (goal.at.Else-length_bad c).After-get32-m) (N (goal.at.Else-length_bad c).After-get32-m) (M (goal.at.Else-length_bad c).After-get32-m) (edition_read (goal.at.Else-length_bad c).After-get32-m) (states_read (goal.at.Else-length_bad c).After-get32-m) c.get32-m.ensures R.counts.few_states
    (few_entries R) (sym c.counts_bad-2.ensures ∙ c.if-counts_bad-2.false) (long c)

-- Past ground 8 its records count its entries.
pub counts : (c : Else-records_bad) → Laid (B (goal.at.Else-records_bad c).After-get32-m)
counts c =
    let C = counted (goal.at.Else-records_bad c).Else-length_bad in
    counts_laid (B (goal.at.Else-records_bad c).After-get32-m) (N (goal.at.Else-records_bad c).After-get32-m) (M (goal.at.Else-records_bad c).After-get32-m) C (sym c.records_bad.ensures ∙ c.if-records_bad.false)

-- And it has a state.
pub some_states : (c : Else-records_bad) → 0 < N (goal.at.Else-records_bad c).After-get32-m
some_states c =
    (ranged (goal.at.Else-records_bad c).Else-counts_bad).counts.some_states

pub returns-then-b-lt24 : goal.returns-then-b-lt24
returns-then-b-lt24 c = short c.args.b.now c.if-b-lt24.true

pub returns-then-counts_bad : goal.returns-then-counts_bad
returns-then-counts_bad c = applies (past₁ (goal.at.returns-then-counts_bad c).After-get32-m) (sym c.counts_bad.ensures ∙ c.if-counts_bad.true)

pub counts_bad-requires-2 : goal.counts_bad-requires-2
counts_bad-requires-2 c = (omega arith, (ranged (goal.at.counts_bad-requires-2 c).Else-counts_bad).counts.few_states)

pub returns-then-counts_bad-2 : goal.returns-then-counts_bad-2
returns-then-counts_bad-2 c = applies (past₂ (goal.at.returns-then-counts_bad-2 c).Else-counts_bad) (sym c.counts_bad-2.ensures ∙ c.if-counts_bad-2.true)

pub length_bad-requires : goal.length_bad-requires
length_bad-requires c = let R = ranged (goal.at.length_bad-requires c).Else-counts_bad in (refl, R.counts.few_states, few_entries R)

pub returns-then-length_bad : goal.returns-then-length_bad
returns-then-length_bad c = applies (past_counts (goal.at.returns-then-length_bad c).Else-counts_bad-2) (sym c.length_bad.ensures ∙ c.if-length_bad.true)

pub trailer_bad-requires : goal.trailer_bad-requires
trailer_bad-requires c = let C = counted (goal.at.trailer_bad-requires c).Else-length_bad in (omega (arith, C.long), omega (arith, C.few_entries))

pub returns-then-trailer_bad : goal.returns-then-trailer_bad
returns-then-trailer_bad c = applies (past₃ (goal.at.returns-then-trailer_bad c).Else-length_bad) (sym c.trailer_bad.ensures ∙ c.if-trailer_bad.true)

pub check_bad-requires : goal.check_bad-requires
check_bad-requires c =
    let C = counted (goal.at.check_bad-requires c).Else-length_bad in
    (omega (arith, C.long), omega (arith, C.long), omega (arith, C.long, C.few_states, C.few_entries, C.few_labels))

pub returns-then-check_bad : goal.returns-then-check_bad
returns-then-check_bad c = applies (past₄ (goal.at.returns-then-check_bad c).Else-trailer_bad) (sym c.check_bad.ensures ∙ c.if-check_bad.true)

pub returns-then-n-start : goal.returns-then-n-start
returns-then-n-start c = applies (past₅ (goal.at.returns-then-n-start c).Else-check_bad) (le-leb (N (goal.at.returns-then-n-start c).After-get32-m) (S (goal.at.returns-then-n-start c).After-get32-m) (omega arith))

pub classes_bad-requires : goal.classes_bad-requires
classes_bad-requires c =
    let R = (ranged (goal.at.classes_bad-requires c).Else-counts_bad).counts in
    (omega (arith, (counted (goal.at.classes_bad-requires c).Else-length_bad).long), R.few_classes, R.some_classes)

pub returns-then-classes_bad : goal.returns-then-classes_bad
returns-then-classes_bad c = applies (past₆ (goal.at.returns-then-classes_bad c).Else-n-start) (sym c.classes_bad.ensures ∙ c.if-classes_bad.true)

pub labels_bad-requires : goal.labels_bad-requires
labels_bad-requires c = omega (arith, long (goal.at.labels_bad-requires c).Else-length_bad)

pub returns-then-labels_bad : goal.returns-then-labels_bad
returns-then-labels_bad c = applies (past₇ (goal.at.returns-then-labels_bad c).Else-classes_bad) (sym c.labels_bad.ensures ∙ c.if-labels_bad.true)

pub records_bad-requires : goal.records_bad-requires
records_bad-requires c = (counted (goal.at.records_bad-requires c).Else-length_bad, c.get16-k.ensures)

pub returns-then-records_bad : goal.returns-then-records_bad
returns-then-records_bad c = applies (past_labels (goal.at.returns-then-records_bad c).Else-labels_bad) (sym c.records_bad.ensures ∙ c.if-records_bad.true)

pub begins_of-begins-requires : goal.begins_of-begins-requires
begins_of-begins-requires c = (counts (goal.at.begins_of-begins-requires c).Else-records_bad, states_read (goal.at.begins_of-begins-requires c).After-get32-m, c.get32-m.ensures)

pub entry_classes_bad-requires : goal.entry_classes_bad-requires
entry_classes_bad-requires c =
    (counts (goal.at.entry_classes_bad-requires c).Else-records_bad, c.begins_of-begins.ensures, states_read (goal.at.entry_classes_bad-requires c).After-get32-m, c.get16-k.ensures)

pub returns-then-entry_classes_bad : goal.returns-then-entry_classes_bad
returns-then-entry_classes_bad c = applies (past₈ (goal.at.returns-then-entry_classes_bad c).Else-records_bad) (sym c.entry_classes_bad.ensures ∙ c.if-entry_classes_bad.true)

pub next_bad-requires : goal.next_bad-requires
next_bad-requires c = (counts (goal.at.next_bad-requires c).Else-records_bad, states_read (goal.at.next_bad-requires c).After-get32-m, c.get32-m.ensures, some_states (goal.at.next_bad-requires c).Else-records_bad)

pub returns-then-next_bad : goal.returns-then-next_bad
returns-then-next_bad c = applies (past₉ (goal.at.returns-then-next_bad c).Else-entry_classes_bad) (sym c.next_bad.ensures ∙ c.if-next_bad.true)

pub returns : goal.returns
returns c = none_left (passed (past₉ (goal.at.returns c).Else-entry_classes_bad) (sym c.next_bad.ensures ∙ c.if-next_bad.false))
