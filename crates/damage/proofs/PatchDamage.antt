-- The damage that judging a patch sees: of an accepted patch every proper beginning and every copy with one byte altered is refused, and with 22.
use mathlib.Core.Path.{◌≡◌, refl, ◌∙◌}
use mathlib.Core.Bool.{Bool, true, false, ◌||◌}
use mathlib.Core.List.{List, ◌∷◌}
use Prim.Native.Nat.{ℕ, ◌+◌, ◌-◌, ◌*◌, ◌<◌}
use native.Mathlib.Omega.{arith}
use lib.Dec.{leb}
use lib.ListN.{length, take}
use lib.Seq.{length-take-le}
use Rattle.paper.specs.Below.{any, sum, differ}
use Rattle.paper.specs.Words.{Bytes}
use Rattle.paper.specs.Altered.{Altered}
use Rattle.paper.specs.View.{view_grounds}
use Rattle.paper.specs.Image as image
use Rattle.paper.specs.Image.{image_grounds}
use Rattle.paper.specs.Patch.{listed_states, depth, worst, entries, state_at_of, count, image_word, patched_view, state_falls, shape_bad_of, patch_grounds}
use Rattle.paper.specs.Operations.{judge_image_of, judge_patch_of}
use Rattle.paper.proofs.Refusals.{first_append}
use Rattle.facts.proofs.ImageFacts.{image_accepted}
use Rattle.facts.proofs.PatchFacts.{ShapedPatch, AcceptedPatch, shaped_patch, accepted_patch}
use Rattle.damage.proofs.Cut.{number16-take, number32-take}
use Rattle.damage.proofs.Checked.{Checked, checked_altered}

-- A patch of the right shape ends in its check word.
shaped_checked : (x : List ℕ) → ShapedPatch x → Checked x
shaped_checked x S =
    let n = 10 + 3 * listed_states x + 2 * entries x in
    let last : length x - 2 ≡ 2 * n = omega (arith, S.long) in
    record { before = n; even = omega (arith, S.long); right = rw last at S.checked }

-- Of two patches that differ in one byte not both have the right shape.
shape_altered : (x x' : List ℕ) → Bytes x → Bytes x' → Altered x x' → ShapedPatch x → ShapedPatch x' → ⊥
shape_altered x x' h h' a S S' = checked_altered x x' h h' a (shaped_checked x S) (shaped_checked x' S')

-- No proper beginning of a patch of the right shape has it: it keeps p and q, which give the length of the whole.
shape_cut : (x : List ℕ) (p : ℕ) → p < length x → ShapedPatch x → ShapedPatch (take p x) → ⊥
shape_cut x p l S S' =
    let cut = length-take-le p x (omega arith) in
    let long : 22 < p + 1 = omega (arith, cut, S'.long) in
    omega (arith, cut, S.long, S'.long, number16-take p x 0 (omega arith), number32-take p x 6 (omega arith))

-- A patch that has not the right shape shows it.
shape_shown : (x : List ℕ) → (ShapedPatch x → ⊥) → shape_bad_of x ≡ true
shape_shown x n = go (shape_bad_of x) refl
  where
    go : (o : Bool) → shape_bad_of x ≡ o → o ≡ true
    go true q = refl
    go false q = absurd (n (shaped_patch x q))

-- It is refused with 22 against an accepted image.
shape_refuses : (b x : List ℕ) → judge_image_of b ≡ 0 → (ShapedPatch x → ⊥) → judge_patch_of b x ≡ 22
unfolding judge_patch_of patch_grounds judge_image_of image_grounds view_grounds
shape_refuses b x e n =
    let n' = image.states b in
    let p = listed_states x in
    let v = patched_view b x in
    first_append (image_grounds b)
    ((22, shape_bad_of x)
    ∷ (23, differ (image_word x) (image.check b))
    ∷ (24, any p (λ i. state_falls x i || leb n' (state_at_of x i)))
    ∷ (8, differ (sum p (count x)) (entries x))
    ∷ view_grounds v (image.class_of b) (sum n' v.count) (depth x) (worst x))
    refl ∙ rw (e, shape_shown x n) refl

module _ (b x : List ℕ) (e : judge_patch_of b x ≡ 0) where
  -- The image is accepted, and the patch has the right shape.
  abbrev A : AcceptedPatch b x
  A = accepted_patch b x e

  shaped : ShapedPatch x
  shaped =
      record {
        some_listed = A.some_listed;
        few_listed = A.few_listed;
        long = A.long;
        whole = A.whole;
        distance = A.distance;
        checked = A.checked;
      }

  -- Every proper beginning is refused with 22.
  pub patch_prefix_refused : (p : ℕ) → p < length x → judge_patch_of b (take p x) ≡ 22
  patch_prefix_refused p l = shape_refuses b (take p x) (image_accepted b A.accepted) (shape_cut x p l shaped)

  -- Every copy with one byte altered is refused with 22.
  pub patch_altered_refused : (x' : List ℕ) → Bytes x → Bytes x' → Altered x x' → judge_patch_of b x' ≡ 22
  patch_altered_refused x' h h' a = shape_refuses b x' (image_accepted b A.accepted) (shape_altered x x' h h' a shaped)
