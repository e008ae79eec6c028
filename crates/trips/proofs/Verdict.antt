-- What an operation that builds answers on each way out: refused on a ground of its judge, refused on a ground of its own, or built.
use mathlib.Core.Path.{◌≡◌, refl, sym, ◌∙◌}
use mathlib.Core.Bool.{true}
use mathlib.Core.List.{List, ◌++◌}
use Prim.Native.Nat.{ℕ, zero, suc}
use lib.ListN.{length}
use Rattle.paper.specs.Refusals.{Ground, first}
use Rattle.paper.specs.View.{view_grounds}
use Rattle.paper.specs.Image.{image_grounds}
use Rattle.paper.specs.Operations.{Built, building, filled, judge_image_of}
use Rattle.paper.specs.Promises.{IsBuilt}
use Rattle.paper.proofs.Refusals.{numbered, past, first_append, cleared}
use Rattle.paper.proofs.Refused.{refused, built}
use Rattle.facts.proofs.ImageFacts.{AcceptedImage, image_clear}

-- A refusal is not passed.
past_refused : (v later : ℕ) → ¬ (v ≡ 0) → past v later ≡ v
past_refused zero later h = absurd (h refl)
past_refused (suc v) later h = refl

-- The judge's grounds, the operation's own behind them, what it builds, and the room.
module _ (judge : List Ground) (ok : numbered judge ≡ true) (own : List Ground) (result room : List ℕ) where
  -- What it answers and leaves.
  abbrev outcome : Built
  outcome = building (first (judge ++ own)) result room

  -- A ground of the judge is the operation's.
  pub judge_refuses : (number answered l : ℕ) → number ≡ first judge → ¬ (number ≡ 0) → answered ≡ number → l ≡ 0 → IsBuilt outcome answered l room
  judge_refuses number answered l e h q w =
      let whole : number ≡ first (judge ++ own) = sym (past_refused number (first own) h) ∙ rw e (sym (first_append judge own ok)) in
      rw (q, w) (refused number (first (judge ++ own)) result room whole h)

  module _ (none : first judge ≡ 0) where
    -- Where the judge accepts, its own decide.
    own_decides : first (judge ++ own) ≡ first own
    own_decides = first_append judge own ok ∙ rw none

    -- One of its own applies.
    pub later_refuses : (number answered l : ℕ) → first own ≡ number → ¬ (number ≡ 0) → answered ≡ number → l ≡ 0 → IsBuilt outcome answered l room
    later_refuses number answered l e h q w = rw (q, w) (refused number (first (judge ++ own)) result room (sym (own_decides ∙ e)) h)

    -- None applies.
    pub later_none : (after : List ℕ) (l : ℕ) → first own ≡ 0 → l ≡ length result → after ≡ filled result room → IsBuilt outcome 0 l after
    later_none after l e = built (first (judge ++ own)) result room after l (own_decides ∙ e)

-- So it is with the grounds of an image.
module _ (b : List ℕ) (own : List Ground) (result room : List ℕ) where
  -- None has the number 0.
  image_numbered : numbered (image_grounds b) ≡ true
  unfolding image_grounds view_grounds
  image_numbered = refl

  -- A ground of the image is the operation's.
  pub image_refuses : (number answered l : ℕ) → number ≡ judge_image_of b → ¬ (number ≡ 0) → answered ≡ number → l ≡ 0 → IsBuilt (building (first (image_grounds b ++ own)) result room) answered l room
  unfolding judge_image_of
  image_refuses = judge_refuses (image_grounds b) image_numbered own result room

  module _ (A : AcceptedImage b) where
    -- One of its own applies.
    pub own_refuses : (number answered l : ℕ) → first own ≡ number → ¬ (number ≡ 0) → answered ≡ number → l ≡ 0 → IsBuilt (building (first (image_grounds b ++ own)) result room) answered l room
    own_refuses = later_refuses (image_grounds b) image_numbered own result room (cleared (image_grounds b) (image_clear b A))

    -- None applies.
    pub none_refuses : (after : List ℕ) (l : ℕ) → first own ≡ 0 → l ≡ length result → after ≡ filled result room → IsBuilt (building (first (image_grounds b ++ own)) result room) 0 l after
    none_refuses = later_none (image_grounds b) image_numbered own result room (cleared (image_grounds b) (image_clear b A))
