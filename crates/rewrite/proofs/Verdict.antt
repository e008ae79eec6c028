-- What rewrite answers: refused on the image's ground, else what becomes of the rewritten image and the room.
use mathlib.Core.Path.{◌≡◌, refl, sym, subst, ◌∙◌}
use mathlib.Core.List.{List, [], ◌∷◌}
use Prim.Native.Nat.{ℕ, zero, suc}
use lib.Dec.{ltb}
use lib.ListN.{length}
use Rattle.paper.specs.Refusals.{Ground, first}
use Rattle.paper.specs.View.{view_grounds}
use Rattle.paper.specs.Image.{image_grounds}
use Rattle.paper.specs.Rewrite.{rewritten}
use Rattle.paper.specs.Operations.{judge_image_of, rewrite_grounds, rewrite}
use Rattle.paper.specs.Promises.{Rewrites}
use Rattle.paper.proofs.Refusals.{past, first_append, first_clear}
use Rattle.paper.proofs.Refused.{refused}
use Rattle.facts.proofs.ImageFacts.{AcceptedImage, image_clear}
use Rattle.build.specs.Measured.{Fills}
use Rattle.build.proofs.Grounds.{fills_same}

-- Ground 16 alone.
abbrev room_ground : List ℕ → ℕ → List Ground
room_ground b room = (16, ltb room (length (rewritten b))) ∷ []

-- A refusal is not passed.
past_refused : (v later : ℕ) → ¬ (v ≡ 0) → past v later ≡ v
past_refused zero later h = absurd (h refl)
past_refused (suc v) later h = refl

-- A ground of the image is rewrite's.
pub rewrite_image : (b room : List ℕ) (number answered l : ℕ) → number ≡ judge_image_of b → ¬ (number ≡ 0) → answered ≡ number → l ≡ 0 → Rewrites b room answered l room
unfolding rewrite rewrite_grounds judge_image_of image_grounds view_grounds
rewrite_image b room number answered l e h q w =
    let whole : number ≡ first (rewrite_grounds b (length room)) =
    sym (past_refused number (first (room_ground b (length room))) h) ∙ rw e (sym (first_append (image_grounds b) (room_ground b (length room)) refl)) in
    rw (q, w) (refused number (first (rewrite_grounds b (length room))) (rewritten b) room whole h)

-- Where none of the image's grounds applies, the room decides.
pub rewrite_fills : (b room after : List ℕ) (number l : ℕ) → AcceptedImage b → Fills (rewritten b) room number l after → Rewrites b room number l after
unfolding rewrite rewrite_grounds
rewrite_fills b room after number l A F =
    fills_same (rewritten b) (rewritten b) room after number l (first (rewrite_grounds b (length room))) F refl
    (record { decided = first_clear (image_grounds b) (room_ground b (length room)) (image_clear b A) })

-- An image that is its own rewriting is copied.
pub rewrite_copies : (b room after : List ℕ) (number l : ℕ) → AcceptedImage b → rewritten b ≡ b → Fills b room number l after → Rewrites b room number l after
rewrite_copies b room after number l A same F = rewrite_fills b room after number l A (subst (λ (r : List ℕ). Fills r room number l after) (sym same) F)
