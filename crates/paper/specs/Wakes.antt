-- The way from a word list to the wakes of the host: tables and images that tell, from their start state, exactly the strings that end at each byte.
use Rattle.std.specs.Prelude.{◌≡◌, List, ℕ, suc, ◌*◌, ◌≤◌, length, take}
use Rattle.paper.specs.Below.{each, sum}
use Rattle.paper.specs.Words.{Bytes}
use Rattle.paper.specs.Table as table
use Rattle.paper.specs.Image as image
use Rattle.paper.specs.Scan.{report_bytes}
use Rattle.paper.specs.Strings.{rules, labels_ending}
use Rattle.paper.specs.Operations.{Scanned, filled, judge_table_of, judge_image_of, scan, walk}

-- All bytes of a payload were taken, and the reports left in the room are the labels of all strings of a list that end at each of them, rising, and nothing else.
pub record Tells (list payload room : List ℕ) (o : Scanned) : Type 0 where
  pub number_is : o.number ≡ 0
  pub taken_is : o.taken ≡ length payload
  pub reports_is : o.reports ≡ sum (length payload) (λ i. length (labels_ending (rules list) (take (suc i) payload)))
  pub room_is : o.room ≡ filled (each (length payload) (λ i. report_bytes i (labels_ending (rules list) (take (suc i) payload)))) room

-- So it is over every payload that is taken, with room for all reports: 16 for each byte, 6 bytes each.
abbrev pub TellsAll : List ℕ → (List ℕ → List ℕ → Scanned) → Type 0
TellsAll list run = (payload room : List ℕ) → Bytes payload → length payload ≤ 65536 → 6 * (16 * length payload) ≤ length room → Tells list payload room (run payload room)

-- An accepted table from whose start state every walk tells so.
pub record TableWakes (list t : List ℕ) : Type 0 where
  pub accepted : judge_table_of t ≡ 0
  pub readable : Bytes t
  pub tells : TellsAll list (walk t (table.start t))

-- An accepted image from whose start state every scan tells so.
pub record ImageWakes (list b : List ℕ) : Type 0 where
  pub accepted : judge_image_of b ≡ 0
  pub readable : Bytes b
  pub tells : TellsAll list (scan b (image.start b))
