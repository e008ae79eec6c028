-- What is known of the parts of an accepted image.
use mathlib.Core.Path.{◌≡◌}
use mathlib.Core.List.{List}
use Prim.Native.Nat.{ℕ, ◌+◌, ◌*◌, ◌≤◌, ◌<◌}
use native.Mathlib.Nat.{mul-le-mul}
use native.Mathlib.Omega.{arith}
use lib.ListN.{length}
use Rattle.paper.specs.View.{stored}
use Rattle.paper.specs.Image.{states, classes, records_at_of, entries_part_of, image_view}
use Rattle.facts.proofs.ImageFacts.{AcceptedImage, image_few_labels}
use Rattle.image.specs.Forms.{step_of, stored_in_of}
use Rattle.image.specs.Laid.{Laid, Row}
use Rattle.image.specs.Forms.{Step}
use Rattle.image.proofs.Parts.{part_reading}
use Rattle.image.proofs.Reading.{reading_row, reading_step}

-- An accepted image has the length that its counts give, and its records count its entries.
pub accepted_laid : (b : List ℕ) → AcceptedImage b → Laid b
accepted_laid b A =
    record {
      few_states = A.few_states;
      few_entries = omega (arith, A.not_many, mul-le-mul A.few_states A.few_classes);
      few_labels = image_few_labels b A;
      long = A.long;
      counted = A.stated.total;
    }

module _ (b : List ℕ) (A : AcceptedImage b) (s : ℕ) (hs : s < states b) where
  -- The classes of a state's entries rise and are below k.
  pub part_row : Row (entries_part_of b s) (classes b)
  part_row = reading_row (part_reading b (accepted_laid b A) s hs) A.right hs

  -- The record of a state stands in the image.
  pub record_in_lem : records_at_of b + 4 * s + 4 ≤ length b
  record_in_lem = omega (arith, A.long)

  -- One step over its part is the state's.
  pub step_of_part : (class : ℕ) (row : List ℕ) (step : Step) → row ≡ entries_part_of b s → step ≡ step_of (stored_in_of row class) → step ≡ step_of (stored (image_view b) s class)
  step_of_part class row step e q = reading_step (part_reading b (accepted_laid b A) s hs) class step (rw e at q)
