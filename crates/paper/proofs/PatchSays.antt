-- Each ground of a patch against an image is the paper's sentence, both ways.
use mathlib.Core.Path.{◌≡◌, refl, sym}
use mathlib.Core.Bool.{◌||◌, true≢false}
use mathlib.Core.Logic.{inl}
use mathlib.Core.List.{List}
use Prim.Native.Nat.{ℕ, zero, suc, ◌-◌, ◌*◌, ◌+◌, ◌<◌}
use native.Mathlib.Omega.{arith}
use lib.Dec.{ltb, leb}
use lib.ListN.{length, take}
use Rattle.paper.specs.Below.{sum, differ, outside}
use Rattle.paper.specs.Words.{words, check_word_of}
use Rattle.paper.specs.Image as image
use Rattle.paper.specs.Image.{image_grounds}
use Rattle.paper.specs.Patch as patch
use Rattle.paper.specs.Patch.{patch_length, patched_view, state_falls, shape_bad_of, patch_grounds}
use Rattle.paper.specs.Sentences.{ShapeWrong, StateWrong, image_sentences, patch_sentences}
use Rattle.paper.proofs.Tests.{Holds, holds_less, holds_not_below, holds_differ, holds_or, holds_some, holds_out_of}
use Rattle.paper.proofs.Sentences.{Says, NoneOf, says_after}
use Rattle.paper.proofs.ViewSays.{view_says}
use Rattle.paper.proofs.ImageSays.{some_states, all_classed, image_says}

-- Ground 22.
holds_shape : (x : List ℕ) → Holds (shape_bad_of x) (ShapeWrong x)
unfolding shape_bad_of
holds_shape x =
    let p = patch.listed_states x in
    let q = patch.entries x in
    let check = check_word_of (words (take (length x - 2) x)) in
    holds_or (ltb (length x) 22) _ (holds_less (length x) 22)
    (holds_or (outside 1 64 p) _ (holds_out_of 1 64 p)
    (holds_or (differ (length x) (patch_length p q)) _ (holds_differ (length x) (patch_length p q))
    (holds_or (differ (patch.whole_length x) (length x)) _ (holds_differ (patch.whole_length x) (length x))
    (holds_or (differ (patch.distance_back x) (4 * q + 12)) (differ (patch.check x) check) (holds_differ (patch.distance_back x) (4 * q + 12)) (holds_differ (patch.check x) check)))))

-- Ground 24 at a listed state.
holds_state : (x : List ℕ) (n i : ℕ) → Holds (state_falls x i || leb n (patch.state_at_of x i)) (StateWrong x n i)
holds_state x n i = holds_or (state_falls x i) (leb n (patch.state_at_of x i)) (falls i) (holds_not_below (patch.state_at_of x i) n)
  where
    falls : (i : ℕ) → Holds (state_falls x i) ((j : ℕ) × (i ≡ suc j) × (¬ (patch.state_at_of x j < patch.state_at_of x i)))
    falls zero = (λ e. absurd (true≢false (sym e)), λ w. absurd (omega (arith, w.1)))
    falls (suc i) =
        let h = holds_not_below (patch.state_at_of x i) (patch.state_at_of x (suc i)) in
        (λ e. (i, refl, h.0 e), λ w. let q : i ≡ w.0 = omega (arith, w.1) in h.1 (λ l. w.2 (rw (← q) l)))

-- An image to which none of its sentences applies has states, and each byte a class.
image_none : (b : List ℕ) → NoneOf (image_sentences b) → (0 < image.states b) × ((x : ℕ) → x < 256 → image.class_of b x < image.classes b)
unfolding image_sentences
image_none b (_, (not_2, (_, (_, (_, (_, (_, (not_7, _)))))))) =
    (some_states (image.states b) (λ w. not_2 (inl w)), all_classed (image.classes b) (image.class_of b) not_7)

-- All grounds of a patch.
pub patch_says : (b x : List ℕ) → Says (patch_grounds b x) (patch_sentences b x)
unfolding patch_grounds patch_sentences
patch_says b x =
    let n = image.states b in
    let p = patch.listed_states x in
    let v = patched_view b x in
    says_after (image_grounds b) _ (image_sentences b) _ (image_says b) (λ none.
    let (states, classed) = image_none b none in (
      refl,
      holds_shape x,
      λ _. (
        refl,
        holds_differ (patch.image_word x) (image.check b),
        λ _. (
          refl,
          holds_some p (λ i. state_falls x i || leb n (patch.state_at_of x i)) (StateWrong x n) (λ i hi. holds_state x n i),
          λ _. (
            refl,
            holds_differ (sum p (patch.count x)) (patch.entries x),
            λ _. view_says v (image.class_of b) (sum n v.count) (patch.depth x) (patch.worst x) states classed,
          ),
        ),
      ),
    ))
