-- What expand answers on each way out: refused on the image's ground, refused for want of room, or built.
use mathlib.Core.Path.{◌≡◌, sym, ◌∙◌}
use mathlib.Core.List.{List, [], ◌∷◌}
use Prim.Native.Nat.{ℕ, ◌≤◌, ◌<◌}
use native.Mathlib.Omega.{arith}
use lib.Dec.{ltb}
use lib.ListN.{length}
use borrow.Author.Tests.{lt-ltb, le-ltb}
use Rattle.paper.specs.Refusals.{Ground}
use Rattle.paper.specs.Table.{table_length}
use Rattle.paper.specs.Image.{states, classes, behind}
use Rattle.paper.specs.Results.{table_of}
use Rattle.paper.specs.Operations.{filled, judge_image_of, expand_grounds, expand}
use Rattle.paper.specs.Promises.{Expands}
use Rattle.facts.proofs.ImageFacts.{AcceptedImage}
use Rattle.trips.proofs.Lengths.{length_of_table}
use Rattle.trips.proofs.Verdict.{image_refuses, own_refuses, none_refuses}

module _ (b room : List ℕ) where
  -- Ground 16 alone.
  abbrev room_ground : List Ground
  room_ground = (16, ltb (length room) (length (table_of b))) ∷ []

  -- A ground of the image is expand's.
  pub expand_image : (number answered l : ℕ) → number ≡ judge_image_of b → ¬ (number ≡ 0) → answered ≡ number → l ≡ 0 → Expands b room answered l room
  unfolding expand expand_grounds
  expand_image = image_refuses b room_ground (table_of b) room

  module _ (A : AcceptedImage b) (size : ℕ) (e : size ≡ table_length (states b) (classes b) (behind b)) where
    -- The table has the length that the image's counts and labels give.
    table_long : length (table_of b) ≡ size
    table_long = length_of_table b ∙ sym e

    -- 16: the room is shorter than the table.
    pub expand_short : (answered l : ℕ) → length room < size → answered ≡ 16 → l ≡ 0 → Expands b room answered l room
    unfolding expand expand_grounds
    expand_short answered l h = own_refuses b room_ground (table_of b) room A 16 answered l (rw (lt-ltb (length room) (length (table_of b)) (omega (arith, table_long)))) (λ z. absurd (omega arith))

    -- Else the table is built.
    pub expand-built : (after : List ℕ) → size ≤ length room → after ≡ filled (table_of b) room → Expands b room 0 size after
    unfolding expand expand_grounds
    expand-built after h = none_refuses b room_ground (table_of b) room A after size (rw (le-ltb (length room) (length (table_of b)) (omega (arith, table_long)))) (sym table_long)
