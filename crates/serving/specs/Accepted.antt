-- An accepted image with its counts.
use Rattle.std.specs.Prelude.{◌≡◌, List, ℕ}
use Rattle.paper.specs.Image.{states, classes, entries}
use Rattle.facts.proofs.ImageFacts.{AcceptedImage}

-- The image is accepted, and has n states, k classes and m entries.
pub record Accepted (b : List ℕ) (n k m : ℕ) : Type 0 where
  pub image_is : AcceptedImage b
  pub states_are : n ≡ states b
  pub classes_are : k ≡ classes b
  pub entries_are : m ≡ entries b
