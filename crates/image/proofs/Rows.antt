-- Rows of entries whose classes rise, and what they store.
use mathlib.Core.Path.{◌≡◌}
use mathlib.Core.List.{List}
use mathlib.Core.Option.{Option, none, some}
use Prim.Native.Nat.{ℕ, ◌+◌, ◌*◌, ◌/◌, ◌≤◌, ◌<◌}
use native.Mathlib.Decide.{ℕ_discrete, dec_lt}
use native.Mathlib.Omega.{arith}
use lib.Dec.{eqb}
use lib.ListN.{length}
use borrow.Author.Tests.{eq-eqb, ne_eqb}
use Rattle.paper.specs.Below.{when}
use Rattle.paper.specs.Words.{number16}
use Rattle.paper.proofs.Rising.{ahead, full_row}
use Rattle.image.specs.Forms.{stored_in_of}
use Rattle.image.specs.Laid.{Rising, Under, Row}
use Rattle.paper.proofs.Below.{first_of_nowhere, first_of_at}

-- The class of an entry of a row.
abbrev pub class_at : List ℕ → ℕ → ℕ
class_at row j = number16 row (4 * j)

-- The next state of an entry of a row, where it is of the class.
abbrev pub next_for : List ℕ → ℕ → ℕ → Option ℕ
next_for row c j = when (eqb (class_at row j) c) (number16 row (4 * j + 2))

-- A class that no entry has is not stored.
row_nowhere : (row : List ℕ) (c : ℕ) → ((j : ℕ) → j < length row / 4 → ¬ (class_at row j ≡ c)) → stored_in_of row c ≡ none
unfolding stored_in_of
row_nowhere row c h = first_of_nowhere (next_for row c) (length row / 4) (λ i l. rw (ne_eqb (class_at row i) c (h i l)))

module _ {row : List ℕ} {count : ℕ} (R : Rising row count) where
  -- The bytes of the row tell its entries.
  entries_are : length row / 4 ≡ count
  entries_are = omega (arith, R.sized)

  -- An entry of the class is what the row stores for it.
  pub row_at_lem : (c j : ℕ) → j < count → class_at row j ≡ c → stored_in_of row c ≡ some (number16 row (4 * j + 2))
  unfolding stored_in_of
  row_at_lem c j h e =
      rw entries_are
      (first_of_at (next_for row c) count j (number16 row (4 * j + 2)) h
      (λ i l. rw (ne_eqb (class_at row i) c (λ q. absurd (omega (arith, ahead (class_at row) count R.rises i j l h)))))
      (rw (eq-eqb (class_at row j) c e)))

  -- No entry stands before the first.
  pub under_none : (c : ℕ) → Under row count c 0
  under_none c = record { within = omega arith; lower = λ i l. absurd (omega arith) }

  -- Where an entry's class is below c, those of all before it are, since they rise.
  pub under_to : (c j : ℕ) → j < count → class_at row j < c → Under row count c (j + 1)
  under_to c j h l = record { within = omega arith; lower = λ i hi. go i hi (ℕ_discrete i j) }
    where
      go : (i : ℕ) → i < j + 1 → Dec (i ≡ j) → class_at row i < c
      go i hi (yes e) = rw e l
      go i hi (no e) = omega (arith, ahead (class_at row) count R.rises i j (omega arith) h)

  -- Where an entry's class is not below c, none behind it is.
  pub over_from : (c j : ℕ) → j < count → c ≤ class_at row j → (i : ℕ) → j ≤ i → i < count → c ≤ class_at row i
  over_from c j h l i ji hi = go (ℕ_discrete i j)
    where
      go : Dec (i ≡ j) → c ≤ class_at row i
      go (yes e) = rw e l
      go (no e) = omega (arith, ahead (class_at row) count R.rises j i (omega arith) hi)

  module _ {c j : ℕ} (P : Under row count c j) where
    -- Where the next entry's class is above the class, it is not stored.
    pub under_over : j < count → c < class_at row j → stored_in_of row c ≡ none
    under_over h l = row_nowhere row c (λ i hi e. go i (rw entries_are at hi) e (dec_lt i j) (ℕ_discrete i j))
      where
        go : (i : ℕ) → i < count → class_at row i ≡ c → Dec (i < j) → Dec (i ≡ j) → ⊥
        go i hi e (yes k) d = absurd (omega (arith, P.lower i k))
        go i hi e (no k) (yes q) = let w : class_at row j ≡ c = rw q at e in absurd (omega arith)
        go i hi e (no k) (no q) = absurd (omega (arith, ahead (class_at row) count R.rises j i (omega arith) hi))

    -- Where all are below the class, it is not stored.
    pub under_all : count ≤ j → stored_in_of row c ≡ none
    under_all h = row_nowhere row c (λ i hi e. absurd (omega (arith, entries_are, P.lower i (omega (arith, entries_are, P.within)))))

-- A row of all k classes stores class c at place c.
pub row_full : {row : List ℕ} {k : ℕ} → Row row k → length row / 4 ≡ k → (c : ℕ) → c < k → stored_in_of row c ≡ some (number16 row (4 * c + 2))
row_full {row} {k} R e c h =
    let l : c < length row / 4 = omega arith in
    row_at_lem R.rising c c l (full_row (class_at row) (length row / 4) R.rising.rises k R.below e c l)
