-- The next states of a table with its counts, read cell by cell.
use mathlib.Core.Path.{◌≡◌, refl, ap, ◌∙◌}
use mathlib.Core.List.{List}
use Prim.Native.Nat.{ℕ, ◌+◌, ◌-◌, ◌*◌}
use lib.Dec.{leb}
use lib.ListN.{length}
use Rattle.paper.specs.Below.{any}
use Rattle.paper.specs.Words.{number16}
use Rattle.paper.specs.Table.{states, classes, next}
use Rattle.paper.proofs.Below.{any_same}
use Rattle.facts.proofs.TableFacts.{AcceptedTable, table_few_labels}
use Rattle.table.specs.Counted.{Counted}
use Rattle.table.proofs.Rows.{any-rows}

-- An accepted table has the counts that are read from it.
pub accepted_counted : (t : List ℕ) (n k : ℕ) → n ≡ states t → k ≡ classes t → AcceptedTable t → Counted t n k
accepted_counted t n k en ek A =
    rw (en, ek) (record { states_are = refl; classes_are = refl; few_states = A.few_states; few_classes = A.few_classes; few_labels = table_few_labels t A; long = A.long })

module _ (t : List ℕ) (n k : ℕ) where
  -- The number in a cell of the rows, which are the last 2nk bytes.
  abbrev pub cell : ℕ → ℕ
  cell j = number16 t (length t - 2 * (n * k) + 2 * j)

  -- The next state of a state on a class is the number in a cell.
  pub next_cell : Counted t n k → (s c : ℕ) → cell (s * k + c) ≡ next t s c
  unfolding next
  next_cell C s c = rw (C.states_are, C.classes_are)

  -- A cell's number not below n is a next state not below n.
  pub cells_bad : Counted t n k → any (n * k) (λ j. leb n (cell j)) ≡ any n (λ s. any k (λ c. leb n (next t s c)))
  cells_bad C =
      any-rows n k (λ j. leb n (cell j))
      ∙ any_same n (λ s. any k (λ c. leb n (cell (s * k + c)))) (λ s. any k (λ c. leb n (next t s c)))
      (λ s hs. any_same k (λ c. leb n (cell (s * k + c))) (λ c. leb n (next t s c)) (λ c hc. ap (leb n) (next_cell C s c)))
