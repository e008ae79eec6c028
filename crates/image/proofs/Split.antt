-- Judging an image in two parts: the grounds 1 to 10 and 19 first, and the others where none of these applies.
use mathlib.Core.Path.{◌≡◌, refl, sym, ap, ◌∙◌}
use mathlib.Core.Bool.{◌||◌}
use mathlib.Core.List.{List, [], ◌∷◌, ◌++◌}
use Prim.Native.Nat.{ℕ, zero, suc}
use lib.ListN.{take-append-drop}
use Rattle.paper.specs.Below.{any, differ}
use Rattle.paper.specs.Refusals.{first}
use Rattle.paper.specs.View.{depth_of, worst_hops, endless, same_as_default, any_entry, view_grounds}
use Rattle.paper.specs.Image.{states, depth, class_of, worst, image_view, image_grounds}
use Rattle.paper.specs.Operations.{judge_image_of}
use Rattle.paper.proofs.Refusals.{past, first_append}
use Rattle.image.specs.Grounds.{first_grounds_of, later_grounds}

-- The image's grounds are the first twelve and then the others.
pub grounds_split : (b : List ℕ) → image_grounds b ≡ first_grounds_of b ++ later_grounds b
unfolding first_grounds_of later_grounds
grounds_split b = sym (take-append-drop 12 (image_grounds b))

-- The others are 11, 12 and 13.
pub later_are : (b : List ℕ)
    → let v = image_view b in
    later_grounds b
    ≡ (11, any (states b) (endless v))
    ∷ (12, any_entry v (same_as_default v))
    ∷ (13, differ (depth b) (depth_of v) || differ (worst b) (worst_hops v (class_of b)))
    ∷ []
unfolding image_grounds view_grounds later_grounds
later_are b = refl

-- So the number is that of the first twelve, or what the others give.
judge_split : (b : List ℕ) → judge_image_of b ≡ past (first (first_grounds_of b)) (first (later_grounds b))
unfolding judge_image_of first_grounds_of image_grounds view_grounds
judge_split b = ap first (grounds_split b) ∙ first_append (first_grounds_of b) (later_grounds b) refl

-- A refusal on the first twelve is the image's.
pub judged_first : (b : List ℕ) (r : ℕ) → r ≡ first (first_grounds_of b) → ¬ (r ≡ 0) → r ≡ judge_image_of b
judged_first b r e n = sym (judge_split b ∙ rw (← e) (refusal r n))
  where
    refusal : (r : ℕ) → ¬ (r ≡ 0) → past r (first (later_grounds b)) ≡ r
    refusal zero n = absurd (n refl)
    refusal (suc r) n = refl

-- Where none of the first twelve applies the others decide.
pub judged_later : (b : List ℕ) → first (first_grounds_of b) ≡ 0 → judge_image_of b ≡ first (later_grounds b)
judged_later b e = judge_split b ∙ rw e
