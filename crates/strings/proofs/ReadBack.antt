-- What a table says that holds the states, classes, labels and rows of rules.
use mathlib.Core.Path.{◌≡◌, ap, ◌∙◌}
use mathlib.Core.List.{List, [], ◌∷◌, ◌++◌}
use Prim.Native.Nat.{ℕ, ◌<◌}
use lib.ListN.{length, get_or}
use Rattle.paper.specs.Table as table
use Rattle.paper.specs.Strings.{Rule, number_of, names, longest_ending_of, labels_ending, classes, class_of}
use Rattle.strings.proofs.Classes.{class_below}
use Rattle.strings.proofs.ByteOf.{byte_list, first_byte_next}
use Rattle.strings.proofs.Labels.{labels-longest}
use Rattle.strings.proofs.Stands.{goes, Stands}

-- Read back from its bytes the table has the class of each byte, the labels of each state and each state's row.
pub record Reads (rs : List Rule) (t : List ℕ) : Type 0 where
  pub classes_read : (x : ℕ) → x < 256 → table.class_of t x ≡ class_of rs x
  pub labels_read : (s : ℕ) → s < length (names rs) → table.labels t s ≡ labels_ending rs (get_or (names rs) s [])
  pub rows_read : (s c : ℕ) → s < length (names rs) → c < classes rs
      → table.next t s c ≡ number_of (longest_ending_of (names rs) (get_or (names rs) s [] ++ (get_or (byte_list rs) c 0 ∷ []))) (names rs)

module _ (rs : List Rule) (t : List ℕ) (R : Reads rs t) where
  -- On a byte the table goes where the names go.
  pub table_goes : (s x : ℕ) → s < length (names rs) → x < 256 → table.next t s (table.class_of t x) ≡ goes rs s x
  table_goes s x hs hx =
      ap (table.next t s) (R.classes_read x hx)
      ∙ R.rows_read s (class_of rs x) hs (class_below rs x hx)
      ∙ ap (λ (w : List ℕ). number_of w (names rs)) (first_byte_next rs (get_or (names rs) s []) x hx)

  -- The labels of a state that stands for what was read are those of all strings that end there.
  pub stands_labels : (w : List ℕ) (s : ℕ) → Stands rs w s → table.labels t s ≡ labels_ending rs w
  stands_labels w s S = R.labels_read s S.state_below ∙ ap (labels_ending rs) S.name_is ∙ labels-longest rs w
