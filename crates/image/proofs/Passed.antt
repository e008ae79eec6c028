-- An image to which none of the first twelve grounds applies has passed them.
use mathlib.Core.Path.{◌≡◌, refl}
use mathlib.Core.List.{List, [], ◌∷◌}
use Prim.Native.Nat.{ℕ, zero, suc}
use native.Mathlib.Omega.{arith}
use lib.ListN.{length, take}
use Rattle.paper.specs.Image.{edition, states, classes, entries, class_of, behind, image_length_of, image_view, image_grounds}
use Rattle.paper.specs.View.{view_grounds}
use Rattle.paper.specs.Refusals.{Ground, first}
use Rattle.paper.proofs.Refusals.{Clear, accepted}
use Rattle.paper.proofs.Tests.{not_differ}
use Rattle.facts.proofs.CountFacts.{all_in_range, few_entries}
use Rattle.facts.proofs.LabelFacts.{behind_bound}
use Rattle.facts.proofs.TableFacts.{classed}
use Rattle.facts.proofs.EntryFacts.{entered}
use Rattle.facts.proofs.ImageFacts.{AcceptedImage, image_clear}
use Rattle.image.specs.Grounds.{first_grounds_of}
use Rattle.image.specs.Passed.{Passed}

-- Where none of the first twelve grounds applies, the image has passed them with its own counts.
pub passed : (b : List ℕ) → Clear (first_grounds_of b) → Passed b (states b) (classes b) (entries b)
unfolding first_grounds_of image_grounds view_grounds
passed b (_, (g₂, (counts, (g₃, (_, (_, (_, (g₇, (_, (g₈, (g₉, (g₁₀, _)))))))))))) =
    let n = states b in
    let k = classes b in
    let m = entries b in
    let R = all_in_range n k m g₂ in
    let long : length b ≡ image_length_of n m (behind b) = not_differ (length b) (image_length_of n m (behind b)) g₃ in
    let E = entered (image_view b) m g₈ g₉ g₁₀ in
    record {
      states_are = refl;
      classes_are = refl;
      entries_are = refl;
      some_states = R.counts.some_states;
      few_states = R.counts.few_states;
      some_classes = R.counts.some_classes;
      few_classes = R.counts.few_classes;
      enough = R.enough;
      not_many = R.not_many;
      laid = record {
        few_states = R.counts.few_states;
        few_entries = few_entries R;
        few_labels = omega (arith, R.counts.few_states, behind_bound b 268 n (edition b) (omega arith) counts);
        long = long;
        counted = E.total;
      };
      all_classed = classed k (class_of b) g₇;
      inside = E.inside;
      full = E.full;
      few = E.few;
      class_below = E.class_below;
      rises = E.rises;
      next_below = E.next_below;
    }

-- So it has where the first twelve grounds answer 0.
pub passed_all : (b : List ℕ) → first (first_grounds_of b) ≡ 0 → Passed b (states b) (classes b) (entries b)
unfolding first_grounds_of image_grounds view_grounds
passed_all b e = passed b (accepted (first_grounds_of b) refl e)

-- The counts may be named in any way.
pub passed_for : {b : List ℕ} {n k m k' m' : ℕ} → k ≡ k' → m ≡ m' → Passed b n k m → Passed b n k' m'
passed_for e q P = rw (← e, ← q) P

clear_take : (n : ℕ) (gs : List Ground) → Clear gs → Clear (take n gs)
clear_take zero gs c = refl
clear_take (suc n) [] c = refl
clear_take (suc n) (g ∷ gs) (e, c) = (e, clear_take n gs c)

-- An accepted image has passed them.
pub accepted_passed : (b : List ℕ) → AcceptedImage b → Passed b (states b) (classes b) (entries b)
unfolding first_grounds_of
accepted_passed b A = passed b (clear_take 12 (image_grounds b) (image_clear b A))
