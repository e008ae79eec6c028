-- The classes and labels of an accepted image stand behind its front.
use mathlib.Core.Path.{◌≡◌}
use mathlib.Core.List.{List, ◌++◌}
use Prim.Native.Nat.{ℕ, ◌+◌, ◌*◌}
use native.Mathlib.Omega.{arith}
use lib.ListN.{length, take, drop, length-append}
use Rattle.paper.specs.Below.{list}
use Rattle.paper.specs.Words.{Bytes}
use Rattle.paper.specs.Image as image
use Rattle.paper.specs.Results.{label_bytes_of, labels_held_of}
use Rattle.paper.proofs.Labels.{behind_held}
use Rattle.facts.proofs.ImageFacts.{AcceptedImage}
use Rattle.trips.proofs.Spans.{spans_then, part_taken}
use Rattle.trips.proofs.Numbers.{length_bytes}
use Rattle.trips.proofs.LabelBytes.{length-labels}
use Rattle.trips.proofs.Moved.{own-placed}

module _ (b : List ℕ) (B : Bytes b) (A : AcceptedImage b) (n held : ℕ) (N : n ≡ image.states b) (H : held ≡ image.behind b) where
  -- The labels held are those behind the counts.
  pub held_same : held ≡ labels_held_of (image.edition b) (image.states b) (image.labels b)
  unfolding image.labels
  held_same = omega (arith, behind_held b 268 (image.states b) (image.edition b))

  -- What is copied.
  pub named_stand : take (256 + 2 * n + 2 * held) (drop 12 b) ≡ list 256 (image.class_of b) ++ label_bytes_of (image.edition b) (image.states b) (image.labels b)
  named_stand =
      let P = own-placed b B A in
      part_taken (256 + 2 * n + 2 * held) (spans_then P.at_classes P.at_labels)
      (omega (arith, length-append (list 256 (image.class_of b)) (label_bytes_of (image.edition b) (image.states b) (image.labels b)), length_bytes 256 (image.class_of b), length-labels (image.edition b) (image.states b) (image.labels b), held_same))
