-- After each test the number is decided by the grounds that are left.
use Rattle.std.proofs.Common.{◌≡◌, List, ℕ, length, refl, sym, ap, ◌∙◌, le-leb, arith}
use borrow.Author.Tests.{lt-leb}
use Rattle.paper.specs.Refusals.{Ground}
use Rattle.paper.specs.Labels.{Edition, edition_of, states_in_word, labels_behind}
use Rattle.paper.specs.Table.{edition, states, table_length}
use Rattle.paper.specs.Operations.{judge_table_of}
use Rattle.paper.proofs.Tests.{not_differ}
use Rattle.facts.proofs.CountFacts.{InRange, in_range}
use Rattle.labels.specs.Editions.{edition_in}
use Rattle.table.specs.Counted.{Counted}
use Rattle.table.proofs.Decided.{Decided, passed, applies, none_left}
use Rattle.table.proofs.Grounds.{from2, from_counts, from3, from6, from7, from_labels, from10, short, not_short, counted_so}
use Rattle.table.proofs.judged.Goals as goal
use Rattle.table.proofs.judged.Goals.{After-get16-start, Else-classes_bad, Else-counts_bad, Else-counts_bad-2, Else-labels_bad, Else-length_bad, Else-n-start}

-- The table.
abbrev T : After-get16-start → List ℕ
T c = c.args.bytes.now

-- Its edition, by the first word that was read.
abbrev E : After-get16-start → Edition
E c = edition_in c.of-edition.result

-- The number of states that the word gives.
abbrev N : After-get16-start → ℕ
N c = c.states_of-n.result

-- The number of classes that was read.
abbrev K : After-get16-start → ℕ
K c = c.get16-k.result

-- The start state that was read.
abbrev S : After-get16-start → ℕ
S c = c.get16-start.result

-- The edition is the table's.
e_is : (c : After-get16-start) → E c ≡ edition (T c)
e_is c = c.of-edition.ensures ∙ ap edition_of c.get16-word.ensures

-- So is the number of states.
n_is : (c : After-get16-start) → N c ≡ states (T c)
n_is c = c.states_of-n.ensures ∙ ap states_in_word c.get16-word.ensures

-- Grounds that are left, for what was read.
abbrev Left : (List ℕ → Edition → ℕ → ℕ → ℕ → List Ground) → After-get16-start → Type 0
Left from r = Decided (judge_table_of (T r)) (from (T r) (E r) (N r) (K r) (S r))

-- Past ground 1.
past₁ : (c : After-get16-start) → Left from2 c
past₁ c = not_short (T c) (E c) (N c) (K c) (S c) c.if-bytes-lt6.false (e_is c) (n_is c) c.get16-k.ensures c.get16-start.ensures

-- Past ground 2.
past₂ : (c : Else-counts_bad) → Left from_counts (goal.at.Else-counts_bad c).After-get16-start
past₂ c = passed (past₁ (goal.at.Else-counts_bad c).After-get16-start) (sym c.counts_bad.ensures ∙ c.if-counts_bad.false)

-- Past ground 19 for the counts.
past_counts : (c : Else-counts_bad-2) → Left from3 (goal.at.Else-counts_bad-2 c).After-get16-start
past_counts c = passed (past₂ (goal.at.Else-counts_bad-2 c).Else-counts_bad) (sym c.counts_bad-2.ensures ∙ c.if-counts_bad-2.false)

-- Past ground 3.
past₃ : (c : Else-length_bad) → Left from6 (goal.at.Else-length_bad c).After-get16-start
past₃ c = passed (past_counts (goal.at.Else-length_bad c).Else-counts_bad-2) (sym c.length_bad.ensures ∙ c.if-length_bad.false)

-- Past ground 6.
past₆ : (c : Else-n-start) → Left from7 (goal.at.Else-n-start c).After-get16-start
past₆ c = passed (past₃ (goal.at.Else-n-start c).Else-length_bad) (lt-leb (N (goal.at.Else-n-start c).After-get16-start) (S (goal.at.Else-n-start c).After-get16-start) (omega arith))

-- Past ground 7.
past₇ : (c : Else-classes_bad) → Left from_labels (goal.at.Else-classes_bad c).After-get16-start
past₇ c = passed (past₆ (goal.at.Else-classes_bad c).Else-n-start) (sym c.classes_bad.ensures ∙ c.if-classes_bad.false)

-- Past ground 19 for the labels.
past_labels : (c : Else-labels_bad) → Left from10 (goal.at.Else-labels_bad c).After-get16-start
past_labels c = passed (past₇ (goal.at.Else-labels_bad c).Else-classes_bad) (sym c.labels_bad.ensures ∙ c.if-labels_bad.false)

-- Past ground 2 the counts are in range.
ranged : (c : Else-counts_bad) → InRange (N (goal.at.Else-counts_bad c).After-get16-start) (K (goal.at.Else-counts_bad c).After-get16-start)
ranged c = in_range (N (goal.at.Else-counts_bad c).After-get16-start) (K (goal.at.Else-counts_bad c).After-get16-start) (sym c.counts_bad.ensures ∙ c.if-counts_bad.false)

-- Past ground 3 the length is the one that they give.
long : (c : Else-length_bad) → let r = (goal.at.Else-length_bad c).After-get16-start in length (T r) ≡ table_length (N r) (K r) (labels_behind (T r) 262 (N r) (E r))
long c = not_differ _ _ (sym c.length_bad.ensures ∙ c.if-length_bad.false)

-- So the table has its counts.
counted : (c : Else-length_bad) → let r = (goal.at.Else-length_bad c).After-get16-start in Counted (T r) (N r) (K r)
counted c =
    let r = (goal.at.Else-length_bad c).After-get16-start in
    counted_so (T r) (E r) (N r) (K r) (e_is r) (n_is r) c.get16-k.ensures (ranged (goal.at.Else-length_bad c).Else-counts_bad)
    (sym c.counts_bad-2.ensures ∙ c.if-counts_bad-2.false) (long c)

pub returns-then-bytes-lt6-clause-number : goal.returns-then-bytes-lt6-clause-number
returns-then-bytes-lt6-clause-number c = short c.args.bytes.now c.if-bytes-lt6.true

pub returns-then-counts_bad-clause-number : goal.returns-then-counts_bad-clause-number
returns-then-counts_bad-clause-number c = applies (past₁ (goal.at.returns-then-counts_bad-clause-number c).After-get16-start) (sym c.counts_bad.ensures ∙ c.if-counts_bad.true)

pub counts_bad-requires-2 : goal.counts_bad-requires-2
counts_bad-requires-2 c = (omega arith, (ranged (goal.at.counts_bad-requires-2 c).Else-counts_bad).few_states)

pub returns-then-counts_bad-2-clause-number : goal.returns-then-counts_bad-2-clause-number
returns-then-counts_bad-2-clause-number c = applies (past₂ (goal.at.returns-then-counts_bad-2-clause-number c).Else-counts_bad) (sym c.counts_bad-2.ensures ∙ c.if-counts_bad-2.true)

pub length_bad-requires : goal.length_bad-requires
length_bad-requires c = let R = ranged (goal.at.length_bad-requires c).Else-counts_bad in (refl, R.few_states, R.few_classes)

pub returns-then-length_bad-clause-number : goal.returns-then-length_bad-clause-number
returns-then-length_bad-clause-number c = applies (past_counts (goal.at.returns-then-length_bad-clause-number c).Else-counts_bad-2) (sym c.length_bad.ensures ∙ c.if-length_bad.true)

pub returns-then-n-start-clause-number : goal.returns-then-n-start-clause-number
returns-then-n-start-clause-number c = applies (past₃ (goal.at.returns-then-n-start-clause-number c).Else-length_bad) (le-leb (N (goal.at.returns-then-n-start-clause-number c).After-get16-start) (S (goal.at.returns-then-n-start-clause-number c).After-get16-start) (omega arith))

pub classes_bad-requires : goal.classes_bad-requires
classes_bad-requires c = let C = counted (goal.at.classes_bad-requires c).Else-length_bad in (omega (arith, C.long), C.few_classes, (ranged (goal.at.classes_bad-requires c).Else-counts_bad).some_classes)

pub returns-then-classes_bad-clause-number : goal.returns-then-classes_bad-clause-number
returns-then-classes_bad-clause-number c = applies (past₆ (goal.at.returns-then-classes_bad-clause-number c).Else-n-start) (sym c.classes_bad.ensures ∙ c.if-classes_bad.true)

pub labels_bad-requires : goal.labels_bad-requires
labels_bad-requires c = omega (arith, long (goal.at.labels_bad-requires c).Else-length_bad)

pub returns-then-labels_bad-clause-number : goal.returns-then-labels_bad-clause-number
returns-then-labels_bad-clause-number c = applies (past₇ (goal.at.returns-then-labels_bad-clause-number c).Else-classes_bad) (sym c.labels_bad.ensures ∙ c.if-labels_bad.true)

pub next_bad-requires : goal.next_bad-requires
next_bad-requires c = (ranged (goal.at.next_bad-requires c).Else-counts_bad).some_states

pub invariant_of-table : goal.invariant_of-table
invariant_of-table c =
    record {
      counted = counted (goal.at.invariant_of-table c).Else-length_bad;
      of_edition = e_is (goal.at.invariant_of-table c).After-get16-start;
    }

pub returns-then-next_bad-clause-number : goal.returns-then-next_bad-clause-number
returns-then-next_bad-clause-number c = applies (past_labels (goal.at.returns-then-next_bad-clause-number c).Else-labels_bad) (sym c.next_bad.ensures ∙ c.if-next_bad.true)

pub invariant_of-result : goal.invariant_of-result
invariant_of-result c = record { accepted = sym (none_left (passed (past_labels (goal.at.invariant_of-result c).Else-labels_bad) (sym c.next_bad.ensures ∙ c.if-next_bad.false))) }

pub returns-clause-number : goal.returns-clause-number
returns-clause-number c = none_left (passed (past_labels (goal.at.returns-clause-number c).Else-labels_bad) (sym c.next_bad.ensures ∙ c.if-next_bad.false))
