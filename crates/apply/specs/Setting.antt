-- An image with a patch that it takes, and what beside them is handed from function to function.
use Rattle.std.specs.Prelude.{◌≡◌, List, ℕ}
use Rattle.paper.specs.Below.{sum}
use Rattle.paper.specs.Image as image
use Rattle.paper.specs.Patch as patch
use Rattle.paper.specs.Patch.{listed_states, patched_view}
use Rattle.facts.proofs.PatchFacts.{AcceptedPatch}
use Rattle.image.specs.Laid.{Begins}
use Rattle.patch.specs.Shaped.{PatchBegins}

-- The records of the n states of the image and those of the p states that the patch lists stand at these places.
pub record Setting (b x : List ℕ) (n p records own : ℕ) : Type 0 where
  pub accepted : AcceptedPatch b x
  pub states_are : n ≡ image.states b
  pub listed_are : p ≡ listed_states x
  pub in_image : records ≡ image.records_at_of b
  pub in_patch : own ≡ patch.records_at_of x

-- Their entries begin at these.
pub record Parted (b begins x own : List ℕ) (n p : ℕ) : Type 0 where
  pub accepted : AcceptedPatch b x
  pub states_are : n ≡ image.states b
  pub listed_are : p ≡ listed_states x
  pub begin : Begins b begins
  pub own_begin : PatchBegins x p own

-- All that is counted of both: the states, the labels held, the entries, the depth and the worst.
pub record Fitting (b x : List ℕ) (n held total depth worst : ℕ) : Type 0 where
  pub held_are : held ≡ image.behind b
  pub total_is : total ≡ sum n (patched_view b x).count
  pub depth_is : depth ≡ patch.depth x
  pub worst_is : worst ≡ patch.worst x
