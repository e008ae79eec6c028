-- The counts of a table with its defaults in a list: m, the labels held, the length of the image, and its records and entries as those of the view.
use mathlib.Core.Path.{◌≡◌, sym, ap, ap₂, ◌∙◌}
use mathlib.Core.List.{List, ◌++◌}
use Prim.Native.Nat.{ℕ, ◌*◌, ◌≤◌, ◌<◌}
use native.Mathlib.Nat.{mul-le-mul}
use native.Mathlib.Omega.{arith}
use lib.ListN.{length, get_or}
use Rattle.paper.specs.Below.{each, sum}
use Rattle.paper.specs.Words.{bytes16}
use Rattle.paper.specs.Table.{edition, states, classes, labels}
use Rattle.paper.specs.View.{View}
use Rattle.paper.specs.Image.{default_from_of, image_length_of}
use Rattle.paper.specs.Results.{labels_held_of, record_bytes, entry_bytes}
use Rattle.paper.proofs.Below.{each_same}
use Rattle.paper.proofs.Sums.{sum_same, sum_bound}
use Rattle.paper.proofs.Counts.{count_le}
use Rattle.paper.proofs.Labels.{behind_held}
use Rattle.facts.proofs.TableFacts.{table_few_labels}
use Rattle.trips.proofs.Spans.{length-each}
use Rattle.trips.proofs.Labels.{default_number}
use Rattle.trips.proofs.ImageParts.{total, row_place, row_wide}
use Rattle.trips.proofs.Lengths.{length_of_image}
use Rattle.tally.specs.Kept.{kept, Counts}
use Rattle.tally.specs.Owned.{list_view}
use Rattle.build.specs.Pieces.{listed_record, kept_row}
use Rattle.build.specs.Measured.{list_image_of, Measured}
use Rattle.build.proofs.Rows.{entries-row, entries-count}

-- All entries together are not more than 512 times 256.
counts_few : (t : List ℕ) (n : ℕ) (def counts : List ℕ) → n ≤ 512 → classes t ≤ 256 → Counts t n def counts → sum n (λ s. get_or counts s 0) ≤ 131072
counts_few t n def counts hn hk counted =
    let few : (s : ℕ) → s < n → get_or counts s 0 ≤ classes t = λ s h. omega (arith, counted s h, count_le (classes t) (λ c. kept t s c (default_from_of (get_or def s 0)))) in
    omega (arith, sum_bound n (classes t) (λ s. get_or counts s 0) few, mul-le-mul hn hk)

module _ {t : List ℕ} {n k held : ℕ} {def counts : List ℕ} {m : ℕ} (M : Measured t n k held def counts m) where
  -- The view of the table with the defaults of the list.
  abbrev v : View
  v = list_view t def

  count_is : (s : ℕ) → s < n → get_or counts s 0 ≡ v.count s
  count_is s h = M.counted s h ∙ sym (entries-count t def s)

  -- m is the number of all entries.
  pub total_are : m ≡ total v
  total_are = M.total_is ∙ sum_same n (λ s. get_or counts s 0) v.count count_is ∙ ap (λ (x : ℕ). sum x v.count) M.states_are

  -- It is not above 512 times 256.
  pub total_few : m ≤ 131072
  total_few = omega (arith, M.total_is, counts_few t n def counts (omega (arith, M.states_are, M.accepted.few_states)) M.accepted.few_classes M.counted)

  -- The labels held are those of the table's edition.
  pub labels_held : held ≡ labels_held_of (edition t) (states t) (labels t)
  unfolding labels
  labels_held = M.held_are ∙ behind_held t 262 (states t) (edition t)

  -- They are not above 512 times 16.
  pub held_few : held ≤ 8192
  held_few = omega (arith, M.held_are, table_few_labels t M.accepted)

  -- The image is as long as n, m and the labels held say.
  pub image_long : length (list_image_of t def) ≡ image_length_of n m held
  image_long = omega (arith, length_of_image t (λ s. default_from_of (get_or def s 0)), total_are, M.states_are, M.held_are)

  -- The records by the two lists are those of the view.
  pub records_are : each n (listed_record def counts) ≡ each v.states (record_bytes v)
  unfolding record_bytes
  records_are =
      each_same n (listed_record def counts) (record_bytes v)
      (λ s h. ap₂ (λ (x y : ℕ). bytes16 x ++ bytes16 y) (sym (default_number (get_or def s 0))) (count_is s h))
      ∙ ap (λ (x : ℕ). each x (record_bytes v)) M.states_are

  -- The entries class by class are those of the view.
  pub entries_are : each n (kept_row t k def) ≡ each v.states (entry_bytes v)
  entries_are =
      ap₂ (λ (x y : ℕ). each x (kept_row t y def)) M.states_are M.classes_are
      ∙ each_same v.states (kept_row t (classes t) def) (entry_bytes v) (λ s h. sym (entries-row t def s))

  -- The entries take 4m bytes.
  pub length-entries : length (each n (kept_row t k def)) ≡ 4 * m
  length-entries = omega (arith, ap length entries_are, length-each (entry_bytes v) (row_place v held) (row_wide v held) v.states, total_are)
