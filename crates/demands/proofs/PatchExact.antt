-- A patch is refused with 8 to 12 just where its applied image is not accepted, and with 13 where only its depth or worst is another.
use mathlib.Core.Path.{◌≡◌, refl, sym, ◌∙◌}
use mathlib.Core.Bool.{Bool, true, false, cond, ◌||◌}
use mathlib.Core.Logic.{◌⊎◌, inl, inr, ◌↔◌}
use mathlib.Core.List.{List, ◌∷◌}
use Prim.Native.Nat.{ℕ}
use native.Mathlib.Omega.{arith}
use lib.Dec.{leb}
use Rattle.paper.specs.Below.{any, sum, differ}
use Rattle.paper.specs.Words.{Bytes}
use Rattle.paper.specs.Refusals.{Ground, first}
use Rattle.paper.specs.View.{View, depth_of, worst_hops, view_grounds}
use Rattle.paper.specs.Image as image
use Rattle.paper.specs.Image.{image_grounds}
use Rattle.paper.specs.Patch.{listed_states, depth, worst, entries, state_at_of, count, image_word, patched_view, state_falls, shape_bad_of, patch_grounds, applied}
use Rattle.paper.specs.Operations.{judge_image_of, judge_patch_of}
use Rattle.paper.proofs.Tests.{or_neither, same_differ}
use Rattle.paper.proofs.Refusals.{first_clear}
use Rattle.facts.proofs.ViewFacts.{Sound, view_facts, view_clear}
use Rattle.facts.proofs.ImageFacts.{accepted_image, image_accepted, image_clear}
use Rattle.trips.proofs.Applied.{applied_facts}
use Rattle.trips.proofs.AppliedBack.{accepted_sound}

-- The number is 0 or 13.
abbrev OrThirteen : ℕ → Type 0
OrThirteen number = (number ≡ 0) ⊎ (number ≡ 13)

-- One test among grounds: where the number is none of theirs it does not apply.
not_given : (r : ℕ) (o : Bool) (rest : ℕ) → ¬ (cond o r rest ≡ r) → (o ≡ false) × (cond o r rest ≡ rest)
not_given r true rest n = absurd (n refl)
not_given r false rest n = (refl, refl)

module _ (v : View) (class_of : ℕ → ℕ) (m depth worst : ℕ) (total : sum v.states v.count ≡ m) where
  -- Of a sound view only 13 can be given.
  sound_given : Sound v → OrThirteen (first (view_grounds v class_of m depth worst))
  unfolding view_grounds
  sound_given S =
      let (g₈, (g₉, (g₁₀, (g₁₁, (g₁₂, _))))) = view_clear v S class_of m (depth_of v) (worst_hops v class_of) (record { total = total; deep = refl; far = refl }) in
      rw (g₈, g₉, g₁₀, g₁₁, g₁₂) (last (differ depth (depth_of v) || differ worst (worst_hops v class_of)))
    where
      last : (o : Bool) → OrThirteen (cond o 13 0)
      last true = inr refl
      last false = inl refl

  -- Where only 13 is given the view is sound.
  given_sound : OrThirteen (first (view_grounds v class_of m depth worst)) → Sound v
  unfolding view_grounds
  given_sound w =
      let other : (r : ℕ) → ¬ (r ≡ 0) → ¬ (r ≡ 13) → ¬ (first (view_grounds v class_of m depth worst) ≡ r) = λ r n k e. absurd (neither r n k e w) in
      let (g₈, e₈) = not_given 8 _ _ (other 8 (λ z. absurd (omega (arith, z))) (λ z. absurd (omega (arith, z)))) in
      let (g₉, e₉) = not_given 9 _ _ (λ z. other 9 (λ z. absurd (omega (arith, z))) (λ z. absurd (omega (arith, z))) (e₈ ∙ z)) in
      let (g₁₀, e₁₀) = not_given 10 _ _ (λ z. other 10 (λ z. absurd (omega (arith, z))) (λ z. absurd (omega (arith, z))) (e₈ ∙ e₉ ∙ z)) in
      let (g₁₁, e₁₁) = not_given 11 _ _ (λ z. other 11 (λ z. absurd (omega (arith, z))) (λ z. absurd (omega (arith, z))) (e₈ ∙ e₉ ∙ e₁₀ ∙ z)) in
      let (g₁₂, _) = not_given 12 _ _ (λ z. other 12 (λ z. absurd (omega (arith, z))) (λ z. absurd (omega (arith, z))) (e₈ ∙ e₉ ∙ e₁₀ ∙ e₁₁ ∙ z)) in
      let right = or_neither (differ (depth_of v) (depth_of v)) _ (same_differ (depth_of v) (depth_of v) refl) (same_differ (worst_hops v class_of) (worst_hops v class_of) refl) in
      (view_facts v class_of m (depth_of v) (worst_hops v class_of) (g₈, (g₉, (g₁₀, (g₁₁, (g₁₂, (right, refl))))))).0
    where
      neither : (r : ℕ) → ¬ (r ≡ 0) → ¬ (r ≡ 13) → first (view_grounds v class_of m depth worst) ≡ r → OrThirteen (first (view_grounds v class_of m depth worst)) → ⊥
      neither r n k e (inl z) = n (sym e ∙ z)
      neither r n k e (inr z) = k (sym e ∙ z)

-- A patch that is not refused with 22, 23 or 24 against an accepted image, and whose counts sum to its entries.
module _ (b x : List ℕ) (B : Bytes b) (X : Bytes x) (e : judge_image_of b ≡ 0) (not_22 : ¬ (judge_patch_of b x ≡ 22)) (not_23 : ¬ (judge_patch_of b x ≡ 23)) (not_24 : ¬ (judge_patch_of b x ≡ 24))
    (counted : sum (listed_states x) (count x) ≡ entries x) where
  -- What is given is what the grounds of the view of both give.
  given : judge_patch_of b x ≡ first (view_grounds (patched_view b x) (image.class_of b) (sum (image.states b) (patched_view b x).count) (depth x) (worst x))
  unfolding judge_patch_of patch_grounds
  given =
      let n = image.states b in
      let p = listed_states x in
      let v = patched_view b x in
      let word = differ (image_word x) (image.check b) in
      let states = any p (λ i. state_falls x i || leb n (state_at_of x i)) in
      let from_8 : List Ground = (8, differ (sum p (count x)) (entries x)) ∷ view_grounds v (image.class_of b) (sum n v.count) (depth x) (worst x) in
      let from_24 : List Ground = (24, states) ∷ from_8 in
      let from_23 : List Ground = (23, word) ∷ from_24 in
      let begun : judge_patch_of b x ≡ cond (shape_bad_of x) 22 (first from_23) = first_clear (image_grounds b) ((22, shape_bad_of x) ∷ from_23) (image_clear b (accepted_image b e)) in
      let (_, e₂₂) = not_given 22 (shape_bad_of x) (first from_23) (λ z. not_22 (begun ∙ z)) in
      let (_, e₂₃) = not_given 23 word (first from_24) (λ z. not_23 (begun ∙ e₂₂ ∙ z)) in
      let (_, e₂₄) = not_given 24 states (first from_8) (λ z. not_24 (begun ∙ e₂₂ ∙ e₂₃ ∙ z)) in
      begun ∙ e₂₂ ∙ e₂₃ ∙ e₂₄ ∙ rw (same_differ (sum p (count x)) (entries x) counted) refl

  -- Its applied image is accepted just where it is, or is refused for its depth and worst alone.
  pub refused_as_applied : judge_image_of (applied b x) ≡ 0 ↔ ((judge_patch_of b x ≡ 0) ⊎ (judge_patch_of b x ≡ 13))
  refused_as_applied =
      let v = patched_view b x in
      let A = accepted_image b e in
      let m = sum (image.states b) v.count in (
        λ z. rw given (sound_given v (image.class_of b) m (depth x) (worst x) refl (accepted_sound b x B X A (accepted_image (applied b x) z))),
        λ w. image_accepted (applied b x) (applied_facts b x B A (given_sound v (image.class_of b) m (depth x) (worst x) refl (rw given at w))),
      )
