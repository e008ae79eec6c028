-- An accepted patch against an image as plain facts, and back.
use mathlib.Core.Path.{◌≡◌, refl}
use mathlib.Core.Bool.{false, ◌||◌}
use mathlib.Core.List.{List, [], ◌∷◌, ◌++◌}
use Prim.Native.Nat.{ℕ, zero, suc, ◌+◌, ◌-◌, ◌*◌, ◌≤◌, ◌<◌, ◌^◌}
use native.Mathlib.Omega.{arith}
use lib.Dec.{ltb, leb}
use lib.ListN.{length, take}
use borrow.Author.Tests.{le-ltb, lt-leb, leb-false}
use Rattle.paper.specs.Below.{any, sum, differ, outside}
use Rattle.paper.specs.Words.{words, check_word_of}
use Rattle.paper.specs.Refusals.{Ground}
use Rattle.paper.specs.View.{view_grounds}
use Rattle.paper.specs.Image as image
use Rattle.paper.specs.Image.{states, class_of, image_grounds}
use Rattle.paper.specs.Patch.{listed_states, depth, worst, entries, state_at_of, count, distance_back, whole_length, image_word, check, patch_length, patched_view, state_falls, shape_bad_of, patch_grounds}
use Rattle.paper.specs.Operations.{judge_image_of, judge_patch_of}
use Rattle.paper.proofs.Below.{any_at, any_none}
use Rattle.paper.proofs.Sums.{sum_bound}
use Rattle.paper.proofs.Rising.{Rises}
use Rattle.paper.proofs.Refusals.{Clear, accepted, cleared}
use Rattle.paper.proofs.Tests.{or_both, or_neither, not_differ, same_differ, not_outside, within_outside}
use Rattle.facts.proofs.ViewFacts.{Sound, Stated, view_facts, view_clear}
use Rattle.facts.proofs.ImageFacts.{AcceptedImage, image_clear, accepted_image}
use Rattle.facts.proofs.Listed.{listed_there}

-- Ground 22 as facts: p states are listed, and the length, the trailer and the check word are right.
pub record ShapedPatch (x : List ℕ) : Type 0 where
  pub some_listed : 1 ≤ listed_states x
  pub few_listed : listed_states x ≤ 64
  pub long : length x ≡ patch_length (listed_states x) (entries x)
  pub whole : whole_length x ≡ length x
  pub distance : distance_back x ≡ 4 * entries x + 12
  pub checked : check x ≡ check_word_of (words (take (length x - 2) x))

-- What ground 22 leaves.
pub shaped_patch : (x : List ℕ) → shape_bad_of x ≡ false → ShapedPatch x
unfolding shape_bad_of
shaped_patch x e =
    let p = listed_states x in
    let q = entries x in
    let (_, e₂) = or_both (ltb (length x) 22) _ e in
    let (range, e₃) = or_both (outside 1 64 p) _ e₂ in
    let (long, e₄) = or_both (differ (length x) (patch_length p q)) _ e₃ in
    let (whole, e₅) = or_both (differ (whole_length x) (length x)) _ e₄ in
    let (distance, checked) = or_both (differ (distance_back x) (4 * q + 12)) _ e₅ in
    let (some_p, few_p) = not_outside 1 64 p range in
    record {
      some_listed = some_p;
      few_listed = few_p;
      long = not_differ (length x) (patch_length p q) long;
      whole = not_differ (whole_length x) (length x) whole;
      distance = not_differ (distance_back x) (4 * q + 12) distance;
      checked = not_differ (check x) (check_word_of (words (take (length x - 2) x))) checked;
    }

-- And the other way.
pub shaped_clear : (x : List ℕ) → ShapedPatch x → shape_bad_of x ≡ false
unfolding shape_bad_of
shaped_clear x S =
    let p = listed_states x in
    let q = entries x in
    or_neither (ltb (length x) 22) _ (le-ltb (length x) 22 (omega (arith, S.long)))
    (or_neither (outside 1 64 p) _ (within_outside 1 64 p S.some_listed S.few_listed)
    (or_neither (differ (length x) (patch_length p q)) _ (same_differ (length x) (patch_length p q) S.long)
    (or_neither (differ (whole_length x) (length x)) _ (same_differ (whole_length x) (length x) S.whole)
    (or_neither (differ (distance_back x) (4 * q + 12)) _ (same_differ (distance_back x) (4 * q + 12) S.distance)
    (same_differ (check x) (check_word_of (words (take (length x - 2) x))) S.checked)))))

module _ (x : List ℕ) (p n : ℕ) where
  -- What ground 24 leaves: the listed states rise and are below n.
  pub states-listed : any p (λ i. state_falls x i || leb n (state_at_of x i)) ≡ false → Rises (state_at_of x) p × ((i : ℕ) → i < p → state_at_of x i < n)
  states-listed e =
      let at : (i : ℕ) → i < p → (state_falls x i ≡ false) × (leb n (state_at_of x i) ≡ false)
      = λ i h. or_both (state_falls x i) (leb n (state_at_of x i)) (any_at p i (λ i. state_falls x i || leb n (state_at_of x i)) e h) in
      (λ i h. leb-false (state_at_of x (suc i)) (state_at_of x i) (at (suc i) h).0, λ i h. leb-false n (state_at_of x i) (at i h).1)

  -- And the other way.
  pub listed_clear : Rises (state_at_of x) p → ((i : ℕ) → i < p → state_at_of x i < n) → any p (λ i. state_falls x i || leb n (state_at_of x i)) ≡ false
  listed_clear up below =
      any_none p (λ i. state_falls x i || leb n (state_at_of x i)) (λ i h. or_neither (state_falls x i) (leb n (state_at_of x i)) (rising i h) (lt-leb n (state_at_of x i) (below i h)))
    where
      rising : (i : ℕ) → i < p → state_falls x i ≡ false
      rising zero h = refl
      rising (suc i) h = lt-leb (state_at_of x (suc i)) (state_at_of x i) (up i h)

-- Where no ground of two lists applies, none of either does.
clear_both : (a b : List Ground) → Clear (a ++ b) → Clear a × Clear b
clear_both [] b c = (refl, c)
clear_both (g ∷ a) b (e, c) = let (p, q) = clear_both a b c in ((e, p), q)

-- And the other way.
clear_append : (a b : List Ground) → Clear a → Clear b → Clear (a ++ b)
clear_append [] b p q = q
clear_append (g ∷ a) b (e, p) q = (e, clear_append a b p q)

-- What an accepted patch is known to be, with its image.
pub record AcceptedPatch (b x : List ℕ) : Type 0 where
  pub accepted : AcceptedImage b
  pub some_listed : 1 ≤ listed_states x
  pub few_listed : listed_states x ≤ 64
  pub long : length x ≡ patch_length (listed_states x) (entries x)
  pub small : length x < 2 ^ 32
  pub whole : whole_length x ≡ length x
  pub distance : distance_back x ≡ 4 * entries x + 12
  pub checked : check x ≡ check_word_of (words (take (length x - 2) x))
  pub fits_image : image_word x ≡ image.check b
  pub rises : Rises (state_at_of x) (listed_states x)
  pub below : (i : ℕ) → i < listed_states x → state_at_of x i < states b
  pub counted : sum (listed_states x) (count x) ≡ entries x
  pub right : Sound (patched_view b x)
  pub stated : Stated (patched_view b x) (class_of b) (sum (states b) (patched_view b x).count) (depth x) (worst x)

module _ (b x : List ℕ) where
  -- The records of the patch are those of its listed states in the view.
  pub count-listed : Rises (state_at_of x) (listed_states x) → (i : ℕ) → i < listed_states x → (patched_view b x).count (state_at_of x i) ≡ count x i
  count-listed up i h = rw (listed_there x up i h)

  -- None of them counts more than k entries.
  pub counts_few : Sound (patched_view b x) → Rises (state_at_of x) (listed_states x) → ((i : ℕ) → i < listed_states x → state_at_of x i < states b)
      → (i : ℕ) → i < listed_states x → count x i ≤ image.classes b
  counts_few S up below i h = omega (arith, S.few (state_at_of x i) (below i h), count-listed up i h)

  patch_facts : Clear (patch_grounds b x) → AcceptedPatch b x
  unfolding patch_grounds judge_image_of
  patch_facts c =
      let (before, behind) = clear_both (image_grounds b) _ c in
      let (g₂₂, (g₂₃, (g₂₄, (g₈, view)))) = behind in
      let A = accepted_image b (cleared (image_grounds b) before) in
      let S = shaped_patch x g₂₂ in
      let (up, below) = states-listed x (listed_states x) (states b) g₂₄ in
      let counted = not_differ (sum (listed_states x) (count x)) (entries x) g₈ in
      let (sound, states_so) = view_facts (patched_view b x) (class_of b) (sum (states b) (patched_view b x).count) (depth x) (worst x) view in
      let most : sum (listed_states x) (count x) ≤ listed_states x * 256
      = sum_bound (listed_states x) 256 (count x) (λ i h. omega (arith, counts_few sound up below i h, A.few_classes)) in
      record {
        accepted = A;
        some_listed = S.some_listed;
        few_listed = S.few_listed;
        long = S.long;
        small = omega (arith, S.long, S.few_listed, most, counted);
        whole = S.whole;
        distance = S.distance;
        checked = S.checked;
        fits_image = not_differ (image_word x) (image.check b) g₂₃;
        rises = up;
        below = below;
        counted = counted;
        right = sound;
        stated = states_so;
      }

  -- No ground applies to a patch of which the facts hold.
  pub patch_clear : AcceptedPatch b x → Clear (patch_grounds b x)
  unfolding patch_grounds
  patch_clear A =
      let n = states b in
      let p = listed_states x in
      let shaped : ShapedPatch x = record {
        some_listed = A.some_listed;
        few_listed = A.few_listed;
        long = A.long;
        whole = A.whole;
        distance = A.distance;
        checked = A.checked;
      } in
      clear_append (image_grounds b) _ (image_clear b A.accepted) (
        shaped_clear x shaped,
        (
          same_differ (image_word x) (image.check b) A.fits_image,
          (
            listed_clear x p n A.rises A.below,
            (
              same_differ (sum p (count x)) (entries x) A.counted,
              view_clear (patched_view b x) A.right (class_of b) (sum n (patched_view b x).count) (depth x) (worst x) A.stated,
            ),
          ),
        ),
      )

  -- A patch is accepted just where it is so.
  pub accepted_patch : judge_patch_of b x ≡ 0 → AcceptedPatch b x
  unfolding judge_patch_of patch_grounds image_grounds view_grounds
  accepted_patch e = patch_facts (accepted (patch_grounds b x) refl e)

  -- And the other way.
  pub patch_accepted : AcceptedPatch b x → judge_patch_of b x ≡ 0
  unfolding judge_patch_of
  patch_accepted A = cleared (patch_grounds b x) (patch_clear A)
