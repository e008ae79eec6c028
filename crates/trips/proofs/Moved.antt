-- An image moved into an edition: it is accepted, it reads as the image does, and moved back it is the image.
use mathlib.Core.Path.{◌≡◌, refl, sym, subst}
use mathlib.Core.List.{List}
use Prim.Native.Nat.{ℕ, ◌≤◌, ◌<◌}
use native.Mathlib.Omega.{arith}
use lib.ListN.{length}
use Rattle.paper.specs.Words.{Bytes}
use Rattle.paper.specs.Labels.{Edition}
use Rattle.paper.specs.Image as image
use Rattle.paper.specs.Image.{image_length_of, image_view}
use Rattle.paper.specs.Results.{labels_held_of, moved}
use Rattle.paper.specs.Operations.{judge_image_of}
use Rattle.paper.proofs.Chain.{Inside}
use Rattle.paper.proofs.Labels.{labels_small}
use Rattle.facts.proofs.LabelFacts.{most_labels, labelled_other}
use Rattle.facts.proofs.ImageFacts.{AcceptedImage, image_accepted}
use Rattle.trips.proofs.Agree.{Agree, agree-back, sound_same}
use Rattle.trips.proofs.ImageParts.{Placed, image_placed, image_length_lem}
use Rattle.trips.proofs.ImageReads.{Fits, ImageReads, reads_accepted, accepted_reads}
use Rattle.trips.proofs.ImageWritten.{image_reads}
use Rattle.trips.proofs.ImageBack.{image_back}

-- How long an image is once it is moved.
pub length_moved : (e : Edition) (b : List ℕ) → AcceptedImage b → length (moved e b) ≡ image_length_of (image.states b) (image.entries b) (labels_held_of e (image.states b) (image.labels b))
unfolding moved
length_moved e b A = omega (arith, image_length_lem e (image_view b) (image.start b) (image.class_of b) (image.labels b), A.stated.total)

-- An accepted image of the edition that reads as another does is what that one is moved into.
moved_same : (e : Edition) (b c : List ℕ) → Bytes b → AcceptedImage b → Agree (image_view c) (image_view b) → Inside (image_view c) → image.edition b ≡ e → image.start b ≡ image.start c
    → ((x : ℕ) → x < 256 → image.class_of b x ≡ image.class_of c x) → ((s : ℕ) → s < image.states c → image.labels b s ≡ image.labels c s) → moved e c ≡ b
unfolding moved
moved_same e b c B A S inside edition starts classed labelled =
    image_back e (image_view c) (image.start c) (image.class_of c) (image.labels c) b B
    (accepted_reads e (image_view c) (image.start c) (image.class_of c) (image.labels c) b A S inside edition starts classed labelled)

-- In its own edition an accepted image is what it was, so that its parts stand in it.
pub own-placed : (b : List ℕ) → Bytes b → AcceptedImage b → Placed (image.edition b) (image_view b) (image.start b) (image.class_of b) (image.labels b) b
unfolding moved
own-placed b B A =
    let v = image_view b in
    let same : Agree v v = record {
      states_same = refl;
      classes_same = refl;
      default_same = λ s hs. refl;
      count_same = λ s hs. refl;
      class_same = λ s j hs hj. refl;
      next_same = λ s j hs hj. refl;
    } in
    subst (Placed (image.edition b) v (image.start b) (image.class_of b) (image.labels b)) (moved_same (image.edition b) b b B A same A.right.inside refl refl (λ x hx. refl) (λ s hs. refl))
    (image_placed (image.edition b) v (image.start b) (image.class_of b) (image.labels b)).0

-- An accepted image, none of whose states has too many labels for an edition.
module _ (b : List ℕ) (B : Bytes b) (A : AcceptedImage b) (e : Edition) (few : (s : ℕ) → s < image.states b → length (image.labels b s) ≤ most_labels e) where
  fits : Fits e (image_view b) (image.start b) (image.class_of b) (image.labels b)
  unfolding image.labels
  fits =
      record {
        some_states = A.some_states;
        few_states = A.few_states;
        some_classes = A.some_classes;
        few_classes = A.few_classes;
        begins = A.begins;
        all_classed = A.all_classed;
        all_labelled = λ s hs. labelled_other e (few s hs) (A.all_labelled s hs);
        all_small = λ s hs. labels_small b 268 (image.states b) (image.edition b) B s;
        right = A.right;
      }

  -- Moved into the edition it reads as it did.
  pub moved-reads : ImageReads e (image_view b) (image.start b) (image.class_of b) (image.labels b) (moved e b)
  unfolding moved
  moved-reads = image_reads e (image_view b) (image.start b) (image.class_of b) (image.labels b) fits

  -- It is accepted.
  pub moved_accepted : judge_image_of (moved e b) ≡ 0
  moved_accepted = image_accepted (moved e b) (reads_accepted e (image_view b) (image.start b) (image.class_of b) (image.labels b) fits (moved e b) moved-reads)

  -- Moved back into its own edition it is what it was.
  pub moved_back : moved (image.edition b) (moved e b) ≡ b
  moved_back =
      let R = moved-reads in
      let S = R.view_is in
      let N = S.states_same in
      moved_same (image.edition b) b (moved e b) B A (agree-back (image_view b) (image_view (moved e b)) S) (sound_same (image_view b) (image_view (moved e b)) S A.right).inside refl (sym R.start_is)
      (λ x hx. sym (R.class_is x hx)) (λ s hs. sym (R.labels_are s (omega arith)))
