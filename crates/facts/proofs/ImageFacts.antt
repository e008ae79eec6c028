-- An accepted image as plain facts, and back.
use mathlib.Core.Path.{◌≡◌, refl}
use mathlib.Core.List.{List}
use Prim.Native.Nat.{ℕ, ◌+◌, ◌-◌, ◌*◌, ◌≤◌, ◌<◌}
use native.Mathlib.Omega.{arith}
use lib.ListN.{length, take}
use borrow.Author.Tests.{leb-false, le-ltb, lt-leb}
use Rattle.paper.specs.Below.{differ}
use Rattle.paper.specs.Words.{words, check_word_of}
use Rattle.paper.specs.View.{view_grounds}
use Rattle.paper.specs.Image.{edition, states, classes, start, depth, entries, class_of, labels, behind, distance_back, whole_length, worst, check, image_length_of, image_view, image_grounds}
use Rattle.paper.specs.Operations.{judge_image_of}
use Rattle.paper.proofs.Refusals.{Clear, accepted, cleared}
use Rattle.paper.proofs.Tests.{or_both, or_neither, not_differ, same_differ}
use Rattle.facts.proofs.CountFacts.{AllInRange, all_in_range, all_in_range_clear}
use Rattle.facts.proofs.LabelFacts.{Labelled, behind_bound, labels_right, labels_clear}
use Rattle.facts.proofs.TableFacts.{Classed, classed, classed_clear}
use Rattle.facts.proofs.ViewFacts.{Sound, Stated, view_facts, view_clear}

-- What an accepted image is known to be.
pub record AcceptedImage (b : List ℕ) : Type 0 where
  pub some_states : 1 ≤ states b
  pub few_states : states b ≤ 512
  pub some_classes : 1 ≤ classes b
  pub few_classes : classes b ≤ 256
  pub enough : classes b ≤ entries b
  pub not_many : entries b ≤ states b * classes b
  pub long : length b ≡ image_length_of (states b) (entries b) (behind b)
  pub whole : whole_length b ≡ length b
  pub distance : distance_back b ≡ 4 * entries b + 12
  pub checked : check b ≡ check_word_of (words (take (length b - 2) b))
  pub begins : start b < states b
  pub all_classed : Classed 256 (classes b) (class_of b)
  pub all_labelled : (s : ℕ) → s < states b → Labelled (edition b) (labels b s)
  pub right : Sound (image_view b)
  pub stated : Stated (image_view b) (class_of b) (entries b) (depth b) (worst b)

-- Its counts are in range.
pub image_range : (b : List ℕ) → AcceptedImage b → AllInRange (states b) (classes b) (entries b)
image_range b A = record {
  counts = record { some_states = A.some_states; few_states = A.few_states; some_classes = A.some_classes; few_classes = A.few_classes };
  enough = A.enough;
  not_many = A.not_many;
}

image_facts : (b : List ℕ) → Clear (image_grounds b) → AcceptedImage b
unfolding image_grounds labels
image_facts b (_, (g₂, (counts, (g₃, (g₄, (g₅, (g₆, (g₇, (g₁₉, view))))))))) =
    let n = states b in
    let k = classes b in
    let m = entries b in
    let R = all_in_range n k m g₂ in
    let long : length b ≡ image_length_of n m (behind b) = not_differ (length b) (image_length_of n m (behind b)) g₃ in
    let (wholes, backs) = or_both (differ (whole_length b) (length b)) (differ (distance_back b) (4 * m + 12)) g₄ in
    let (sound, states_so) = view_facts (image_view b) (class_of b) m (depth b) (worst b) view in
    record {
      some_states = R.counts.some_states;
      few_states = R.counts.few_states;
      some_classes = R.counts.some_classes;
      few_classes = R.counts.few_classes;
      enough = R.enough;
      not_many = R.not_many;
      long = long;
      whole = not_differ (whole_length b) (length b) wholes;
      distance = not_differ (distance_back b) (4 * m + 12) backs;
      checked = not_differ (check b) (check_word_of (words (take (length b - 2) b))) g₅;
      begins = leb-false n (start b) g₆;
      all_classed = classed k (class_of b) g₇;
      all_labelled = labels_right b 268 n (edition b) (omega arith) counts g₁₉;
      right = sound;
      stated = states_so;
    }

-- No ground applies to an image of which the facts hold.
pub image_clear : (b : List ℕ) → AcceptedImage b → Clear (image_grounds b)
unfolding image_grounds labels
image_clear b A =
    let n = states b in
    let k = classes b in
    let m = entries b in
    let (counts, g₁₉) = labels_clear b 268 n (edition b) A.all_labelled in (
      le-ltb (length b) 24 (omega (arith, A.long)),
      (
        all_in_range_clear (image_range b A),
        (
          counts,
          (
            same_differ (length b) (image_length_of n m (behind b)) A.long,
            (
              or_neither (differ (whole_length b) (length b)) (differ (distance_back b) (4 * m + 12)) (same_differ (whole_length b) (length b) A.whole) (same_differ (distance_back b) (4 * m + 12) A.distance),
              (
                same_differ (check b) (check_word_of (words (take (length b - 2) b))) A.checked,
                (
                  lt-leb n (start b) A.begins,
                  (
                    classed_clear k (class_of b) A.all_classed,
                    (g₁₉, view_clear (image_view b) A.right (class_of b) m (depth b) (worst b) A.stated),
                  ),
                ),
              ),
            ),
          ),
        ),
      ),
    )

-- At most 8,192 labels stand behind their counts.
pub image_few_labels : (b : List ℕ) → AcceptedImage b → behind b ≤ 8192
unfolding labels
image_few_labels b A =
    let n = states b in
    omega (arith, A.few_states, behind_bound b 268 n (edition b) (omega (arith, A.long)) (labels_clear b 268 n (edition b) A.all_labelled).0)

-- An image is accepted just where it is so.
pub accepted_image : (b : List ℕ) → judge_image_of b ≡ 0 → AcceptedImage b
unfolding judge_image_of image_grounds view_grounds
accepted_image b e = image_facts b (accepted (image_grounds b) refl e)

-- And the other way.
pub image_accepted : (b : List ℕ) → AcceptedImage b → judge_image_of b ≡ 0
unfolding judge_image_of
image_accepted b A = cleared (image_grounds b) (image_clear b A)
