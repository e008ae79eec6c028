-- How long results are: an image by its states, entries and labels, a table by its states, classes and labels.
use mathlib.Core.Path.{◌≡◌}
use mathlib.Core.Bool.{Bool}
use mathlib.Core.Option.{Option}
use mathlib.Core.List.{List}
use Prim.Native.Nat.{ℕ, ◌*◌, ◌≤◌}
use native.Mathlib.Omega.{arith}
use lib.ListN.{length}
use Rattle.paper.specs.Below.{sum}
use Rattle.paper.specs.Table as table
use Rattle.paper.specs.Table.{table_length}
use Rattle.paper.specs.Image as image
use Rattle.paper.specs.Image.{image_length_of, image_view}
use Rattle.paper.specs.Results.{differs, stored_entries, table_view, image_of, table_of}
use Rattle.paper.proofs.Sums.{sum_bound}
use Rattle.paper.proofs.Counts.{count_le, length_passed}
use Rattle.paper.proofs.Labels.{behind_held}
use Rattle.trips.proofs.Stored.{goes}
use Rattle.trips.proofs.TableBytes.{made_length}
use Rattle.trips.proofs.ImageParts.{image_length_lem}

-- The image of a table with any defaults.
pub length_of_image : (t : List ℕ) (default : ℕ → Option ℕ)
    → length (image_of t default) ≡ image_length_of (table.states t) (sum (table.states t) (λ s. length (stored_entries t default s))) (table.behind t)
unfolding image_of table.labels
length_of_image t default =
    omega (arith, image_length_lem (table.edition t) (table_view t default) (table.start t) (table.class_of t) (table.labels t), behind_held t 262 (table.states t) (table.edition t))

-- A state stores k entries at most.
row_few : (t : List ℕ) (default : ℕ → Option ℕ) (s : ℕ) → length (stored_entries t default s) ≤ table.classes t
unfolding stored_entries
row_few t default s =
    let kept : ℕ → Bool = λ c. differs t default s c (default s) in
    omega (arith, length_passed {A = ℕ × ℕ} (table.classes t) kept (λ c. (c, table.next t s c)), count_le (table.classes t) kept)

-- No image of a table is longer than one of all entries.
pub image_most : (t : List ℕ) (default : ℕ → Option ℕ) → length (image_of t default) ≤ image_length_of (table.states t) (table.states t * table.classes t) (table.behind t)
image_most t default =
    omega (arith, length_of_image t default, sum_bound (table.states t) (table.classes t) (λ s. length (stored_entries t default s)) (λ s h. row_few t default s))

-- The table of an image.
pub length_of_table : (b : List ℕ) → length (table_of b) ≡ table_length (image.states b) (image.classes b) (image.behind b)
unfolding table_of image.labels
length_of_table b =
    omega (arith, made_length (image.edition b) (image.states b) (image.classes b) (image.start b) (image.class_of b) (image.labels b) (goes (image_view b)), behind_held b 268 (image.states b) (image.edition b))
