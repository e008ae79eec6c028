-- An image and a patch that has passed the grounds 22, 24 and 8 to 10 against it.
use Rattle.std.specs.Prelude.{◌≡◌, List, ℕ}
use Rattle.paper.specs.Below.{sum}
use Rattle.paper.specs.Image.{states, classes, entries}
use Rattle.paper.specs.Patch.{patched_view}
use Rattle.facts.proofs.ImageFacts.{AcceptedImage}
use Rattle.facts.proofs.EntryFacts.{Entered}
use Rattle.patch.specs.Shaped.{Counts}
use Rattle.patch.specs.Listed.{Listed}

-- The image b of n states, k classes and m entries is accepted; the patch x lists p of its states, with q entries; and the view of both has records and entries as 8, 9 and 10 ask.
pub record Overlay (b x : List ℕ) (n k m p q : ℕ) : Type 0 where
  pub accepted : AcceptedImage b
  pub states_are : n ≡ states b
  pub classes_are : k ≡ classes b
  pub entries_are : m ≡ entries b
  pub counts : Counts x p q
  pub listed : Listed x p n
  pub entered : Entered (patched_view b x) (sum n (patched_view b x).count)
