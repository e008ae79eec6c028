-- An image with a patch applied: where the view of both is sound, what is written is accepted and reads as that view, with the image's edition, start, classes and labels.
use mathlib.Core.Path.{◌≡◌, ap}
use mathlib.Core.List.{List}
use mathlib.Core.Option.{Option}
use Prim.Native.Nat.{ℕ, ◌<◌}
use lib.ListN.{length}
use Rattle.paper.specs.Words.{Bytes}
use Rattle.paper.specs.Below.{or, sum}
use Rattle.paper.specs.View.{Found, here, look}
use Rattle.paper.specs.Image as image
use Rattle.paper.specs.Image.{image_length_of, image_view}
use Rattle.paper.specs.Patch.{patched_view, applied}
use Rattle.paper.specs.Results.{labels_held_of}
use Rattle.paper.proofs.Labels.{labels_small}
use Rattle.facts.proofs.ViewFacts.{Sound}
use Rattle.facts.proofs.ImageFacts.{AcceptedImage}
use Rattle.trips.proofs.Agree.{find_same}
use Rattle.trips.proofs.ImageParts.{image_length_lem}
use Rattle.trips.proofs.ImageReads.{Fits, ImageReads, reads_accepted}
use Rattle.trips.proofs.ImageWritten.{image_reads}

-- How long the image is once the patch is applied.
pub length-applied : (b x : List ℕ) → length (applied b x) ≡ image_length_of (image.states b) (sum (image.states b) (patched_view b x).count) (labels_held_of (image.edition b) (image.states b) (image.labels b))
unfolding applied
length-applied b x = image_length_lem (image.edition b) (patched_view b x) (image.start b) (image.class_of b) (image.labels b)

-- An accepted image and a patch with which its view is sound.
module _ (b x : List ℕ) (B : Bytes b) (A : AcceptedImage b) (S : Sound (patched_view b x)) where
  fits : Fits (image.edition b) (patched_view b x) (image.start b) (image.class_of b) (image.labels b)
  unfolding image.labels
  fits =
      record {
        some_states = A.some_states;
        few_states = A.few_states;
        some_classes = A.some_classes;
        few_classes = A.few_classes;
        begins = A.begins;
        all_classed = A.all_classed;
        all_labelled = A.all_labelled;
        all_small = λ s hs. labels_small b 268 (image.states b) (image.edition b) B s;
        right = S;
      }

  -- What is written reads as the view of both.
  pub applied-reads : ImageReads (image.edition b) (patched_view b x) (image.start b) (image.class_of b) (image.labels b) (applied b x)
  unfolding applied
  applied-reads = image_reads (image.edition b) (patched_view b x) (image.start b) (image.class_of b) (image.labels b) fits

  -- It is accepted.
  pub applied_facts : AcceptedImage (applied b x)
  applied_facts = reads_accepted (image.edition b) (patched_view b x) (image.start b) (image.class_of b) (image.labels b) fits (applied b x) applied-reads

  -- It has the image's states.
  pub applied-states : image.states b ≡ image.states (applied b x)
  applied-states = applied-reads.view_is.states_same

  -- Each look-up finds what the view of both gives.
  pub applied-look : (s c : ℕ) → s < image.states b → look (patched_view b x) s c ≡ look (image_view (applied b x)) s c
  applied-look s c h = ap (λ (o : Option Found). or o (here 0 0)) (find_same (patched_view b x) (image_view (applied b x)) applied-reads.view_is S.inside s c h)
