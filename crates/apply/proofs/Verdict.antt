-- What apply answers on each way out: refused on a ground of the image or the patch, for want of room, or built.
use mathlib.Core.Path.{◌≡◌, refl, sym}
use mathlib.Core.Bool.{true}
use mathlib.Core.List.{List, [], ◌∷◌}
use Prim.Native.Nat.{ℕ, ◌≤◌, ◌<◌}
use native.Mathlib.Omega.{arith}
use lib.Dec.{ltb}
use lib.ListN.{length}
use borrow.Author.Tests.{lt-ltb, le-ltb}
use Rattle.paper.specs.Refusals.{Ground}
use Rattle.paper.specs.View.{view_grounds}
use Rattle.paper.specs.Image.{image_grounds}
use Rattle.paper.specs.Patch.{patch_grounds, applied}
use Rattle.paper.specs.Operations.{filled, judge_patch_of, apply_grounds, apply}
use Rattle.paper.specs.Promises.{Applies}
use Rattle.paper.proofs.Refusals.{numbered}
use Rattle.trips.proofs.Verdict.{judge_refuses, later_refuses, later_none}

-- No ground of a patch has the number 0.
patch_numbered : (b x : List ℕ) → numbered (patch_grounds b x) ≡ true
unfolding patch_grounds image_grounds view_grounds
patch_numbered b x = refl

module _ (b x room : List ℕ) where
  -- Apply's own ground.
  abbrev own : List Ground
  own = (16, ltb (length room) (length (applied b x))) ∷ []

  -- A ground of the patch is apply's.
  pub patch_refuses : (number answered l : ℕ) → number ≡ judge_patch_of b x → ¬ (number ≡ 0) → answered ≡ number → l ≡ 0 → Applies b x room answered l room
  unfolding apply apply_grounds judge_patch_of
  patch_refuses = judge_refuses (patch_grounds b x) (patch_numbered b x) own (applied b x) room

  module _ (e : judge_patch_of b x ≡ 0) (size : ℕ) (long : length (applied b x) ≡ size) where
    -- 16: the room is shorter than the applied image.
    pub room_short : (answered l : ℕ) → length room < size → answered ≡ 16 → l ≡ 0 → Applies b x room answered l room
    unfolding apply apply_grounds judge_patch_of
    room_short answered l h =
        later_refuses (patch_grounds b x) (patch_numbered b x) own (applied b x) room e 16 answered l (rw (lt-ltb (length room) (length (applied b x)) (omega (arith, long)))) (λ q. absurd (omega (arith, q)))

    -- Else it is filled.
    pub room-filled : (after : List ℕ) → size ≤ length room → after ≡ filled (applied b x) room → Applies b x room 0 size after
    unfolding apply apply_grounds judge_patch_of
    room-filled after h =
        later_none (patch_grounds b x) (patch_numbered b x) own (applied b x) room e after size (rw (le-ltb (length room) (length (applied b x)) (omega (arith, long)))) (sym long)
