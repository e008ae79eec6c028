-- The grounds of a patch that are left from each on, behind those of an accepted image, as the code tests them.
use mathlib.Core.Path.{◌≡◌, refl, sym, ap, ◌∙◌}
use mathlib.Core.Bool.{Bool, true, false, ◌||◌, or-true}
use mathlib.Core.List.{List, ◌∷◌}
use Prim.Native.Nat.{ℕ, zero, suc, ◌<◌}
use native.Mathlib.Omega.{arith}
use lib.Dec.{leb}
use Rattle.paper.specs.Below.{any, sum, differ}
use Rattle.paper.specs.Refusals.{Ground, first}
use Rattle.paper.specs.View.{record_bad_of, view_grounds}
use Rattle.paper.specs.Image as image
use Rattle.paper.specs.Image.{states, classes, class_of, image_grounds}
use Rattle.paper.specs.Patch.{listed_states, entries, depth, worst, state_at_of, count, image_word, patched_view, state_falls, shape_bad_of, patch_grounds}
use Rattle.paper.specs.Operations.{judge_image_of, judge_patch_of}
use Rattle.paper.proofs.Refusals.{past, first_append, first_clear}
use Rattle.paper.proofs.Tests.{same_differ}
use Rattle.paper.proofs.Rising.{Rises}
use Rattle.facts.proofs.ImageFacts.{AcceptedImage, image_clear}
use Rattle.table.proofs.Decided.{Decided}
use Rattle.patch.specs.Listed.{Listed}
use Rattle.overlaid.specs.Chosen.{last_grounds_of}
use Rattle.judgepatch.proofs.Own.{records_wrong, classes_wrong, next_wrong, records_own, classes-own, next-own}

-- The two grounds that are 8, and 9 to 13, of the view of both.
abbrev pub of_view : List ℕ → List ℕ → List Ground
of_view b x =
    let v = patched_view b x in
    (8, differ (sum (listed_states x) (count x)) (entries x)) ∷ view_grounds v (class_of b) (sum (states b) v.count) (depth x) (worst x)

module _ (b x : List ℕ) (n k p q : ℕ) where
  -- Ground 10, and 11 to 13.
  abbrev pub from10 : List Ground
  from10 = (10, next_wrong x n k p) ∷ last_grounds_of b x

  -- Grounds 9 to 13.
  abbrev pub from9 : List Ground
  from9 = (9, classes_wrong x n k p) ∷ from10

  -- Grounds 8 to 13.
  abbrev pub from8 : List Ground
  from8 = (8, records_wrong x n k p || differ (sum p (count x)) q) ∷ from9

  -- Ground 24, and 8 to 13 of the view.
  abbrev pub from24 : List Ground
  from24 = (24, any p (λ i. state_falls x i || leb n (state_at_of x i))) ∷ of_view b x

-- All grounds behind the image's.
abbrev pub behind : List ℕ → List ℕ → List Ground
behind b x = (22, shape_bad_of x) ∷ (23, differ (image_word x) (image.check b)) ∷ from24 b x (states b) (classes b) (listed_states x) (entries x)

-- They decide where the image is accepted.
pub behind_image : (b x : List ℕ) → AcceptedImage b
    → Decided (judge_patch_of b x) (behind b x)
unfolding judge_patch_of patch_grounds
behind_image b x A = record { decided = first_clear (image_grounds b) (behind b x) (image_clear b A) }

-- Two grounds of one number and then others are one ground and then others.
two_as_one : {number r : ℕ} {gs : List Ground} (a d e f : Bool) → e ≡ a → f ≡ false → Decided number ((r, d) ∷ (r, e || f) ∷ gs) → Decided number ((r, a || d) ∷ gs)
two_as_one a true e f q z D = record { decided = D.decided ∙ rw (or-true a) }
two_as_one true false e f q z D = record { decided = D.decided ∙ rw q }
two_as_one false false e f q z D = record { decided = D.decided ∙ rw (q, z) }

module _ {number : ℕ} (b x : List ℕ) (A : AcceptedImage b) (n k p q : ℕ) (n_is : n ≡ states b) (k_is : k ≡ classes b) (p_is : p ≡ listed_states x) (q_is : q ≡ entries x) where
  -- The numbers that were read are the image's and the patch's.
  pub read_so : Decided number (from24 b x (states b) (classes b) (listed_states x) (entries x)) → Decided number (from24 b x n k p q)
  read_so D = rw (n_is, p_is) D

  module _ (L : Listed x p n) where
    -- Where the listed states rise and are below n, the grounds 8 to 10 are those of the patch's own records and entries.
    pub own_so : Decided number (of_view b x) → Decided number (from8 b x n k p q)
    unfolding view_grounds last_grounds_of
    own_so D =
        let up : Rises (state_at_of x) (listed_states x) = λ j h. L.rises j (omega (arith, p_is)) in
        let below : (i : ℕ) → i < listed_states x → state_at_of x i < states b = λ i h. omega (arith, L.below i (omega (arith, p_is)), n_is) in
        let m = sum (states b) (patched_view b x).count in
        rw (n_is, k_is, p_is, q_is, ← classes-own b x A up below, ← next-own b x A up below)
        (two_as_one (records_wrong x (states b) (classes b) (listed_states x)) (differ (sum (listed_states x) (count x)) (entries x)) (any (states b) (record_bad_of (patched_view b x))) (differ m m)
        (records_own b x A up below) (same_differ m m refl) D)

-- A refusal of the image is that of the patch against it.
pub judged_image : (b x : List ℕ) (r : ℕ) → r ≡ judge_image_of b → ¬ (r ≡ 0) → r ≡ judge_patch_of b x
unfolding judge_image_of judge_patch_of patch_grounds image_grounds view_grounds
judged_image b x r e n = sym (first_append (image_grounds b) (behind b x) refl ∙ ap (λ (y : ℕ). past y (first (behind b x))) (sym e) ∙ refusal (first (behind b x)) r n)
  where
    refusal : (later r : ℕ) → ¬ (r ≡ 0) → past r later ≡ r
    refusal later zero n = absurd (n refl)
    refusal later (suc r) n = refl
