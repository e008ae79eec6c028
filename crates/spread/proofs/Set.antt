-- A struct with its image and its arrays is a setting, with a room that is long enough.
use Rattle.std.proofs.Common.{ℕ, ◌≤◌, ◌<◌, List, length, arith}
use Rattle.paper.specs.Image.{states}
use Rattle.facts.proofs.ImageFacts.{accepted_image, image_few_labels}
use Rattle.spread.specs.declared.Spread.{Spread}
use Rattle.spread.specs.Rows.{row_at, Setting}

module _ (a : Spread) where
  pub setting : (room : List ℕ) → row_at a.first a.image.k a.image.n ≤ length room → Setting a.image.bytes.now a.first a.image.k a.begins.now a.def.now room
  setting room fits = record {
    accepted = accepted_image a.image.bytes.now a.image.accepted;
    first_is = a.first_is;
    classes_are = a.image.classes_are;
    begin = a.begin;
    falls = a.falls;
    fits = rw a.image.states_are at fits;
  }

  -- The numbers are small.
  pub small : (a.first ≤ 17670) × (a.image.k ≤ 256) × (a.image.n ≤ 512)
  small =
      let A = accepted_image a.image.bytes.now a.image.accepted in
      (omega (arith, a.first_is, A.few_states, image_few_labels a.image.bytes.now A), omega (arith, a.image.classes_are, A.few_classes), omega (arith, a.image.states_are, A.few_states))

  -- Its states are the image's.
  pub below : {s : ℕ} → s < a.image.n → s < states a.image.bytes.now
  below h = omega (arith, a.image.states_are)
