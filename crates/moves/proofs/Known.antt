-- What is known of an image that is moved.
use Rattle.std.proofs.Common.{◌≤◌, arith}
use native.Mathlib.Nat.{mul-le-mul}
use Rattle.facts.proofs.ImageFacts.{AcceptedImage, accepted_image}
use Rattle.image.specs.declared.judged.Image.{Image}

module _ (a : Image) where
  pub known : AcceptedImage a.bytes.now
  known = accepted_image a.bytes.now a.accepted

  -- It has few states and few entries.
  pub few : a.n ≤ 512
  few = omega (arith, a.states_are, known.few_states)

  pub few_entries : a.m ≤ 131072
  few_entries = omega (arith, a.entries_are, known.not_many, mul-le-mul known.few_states known.few_classes)
