-- What the moves answer on each way out: refused on the image's ground, for its edition, for a list that is too long, for want of room, or built.
use mathlib.Core.Path.{◌≡◌, sym, ◌∙◌}
use mathlib.Core.Bool.{Bool, true, false}
use mathlib.Core.List.{List}
use Prim.Native.Nat.{ℕ, ◌≤◌, ◌<◌}
use native.Mathlib.Omega.{arith}
use lib.Dec.{ltb}
use lib.ListN.{length}
use borrow.Author.Tests.{lt-ltb, le-ltb}
use Rattle.paper.specs.Below.{any}
use Rattle.paper.specs.Labels.{one, two, label_count}
use Rattle.paper.specs.Image as image
use Rattle.paper.specs.Image.{image_length_of}
use Rattle.paper.specs.Results.{labels_held_of, moved}
use Rattle.paper.specs.Operations.{filled, judge_image_of, forward_grounds, forward, back_grounds, back}
use Rattle.paper.specs.Promises.{MovesForward, MovesBack}
use Rattle.facts.proofs.ImageFacts.{AcceptedImage}
use Rattle.trips.proofs.Moved.{length_moved}
use Rattle.trips.proofs.Moves.{forward_own, back_own}
use Rattle.trips.proofs.Verdict.{image_refuses, own_refuses, none_refuses}
use Rattle.relabel.proofs.Across.{many_counted}

module _ (b room : List ℕ) where
  -- A ground of the image is forward's.
  pub forward_image : (number answered l : ℕ) → number ≡ judge_image_of b → ¬ (number ≡ 0) → answered ≡ number → l ≡ 0 → MovesForward b room answered l room
  unfolding forward forward_grounds
  forward_image = image_refuses b (forward_own b (length room)) (moved two b) room

  -- It is back's.
  pub back_image : (number answered l : ℕ) → number ≡ judge_image_of b → ¬ (number ≡ 0) → answered ≡ number → l ≡ 0 → MovesBack b room answered l room
  unfolding back back_grounds
  back_image = image_refuses b (back_own b (length room)) (moved one b) room

  module _ (A : AcceptedImage b) where
    -- 20: forward's image is of edition 2.
    pub forward_wrong : image.edition b ≡ two → (answered l : ℕ) → answered ≡ 20 → l ≡ 0 → MovesForward b room answered l room
    unfolding forward forward_grounds
    forward_wrong E answered l = own_refuses b (forward_own b (length room)) (moved two b) room A 20 answered l (rw E) (λ z. absurd (omega arith))

    -- 20: back's image is of edition 1.
    pub back_wrong : image.edition b ≡ one → (answered l : ℕ) → answered ≡ 20 → l ≡ 0 → MovesBack b room answered l room
    unfolding back back_grounds
    back_wrong E answered l = own_refuses b (back_own b (length room)) (moved one b) room A 20 answered l (rw E) (λ z. absurd (omega arith))

    module _ (E : image.edition b ≡ one) (size : ℕ) (e : size ≡ image_length_of (image.states b) (image.entries b) (labels_held_of two (image.states b) (image.labels b))) where
      -- The image moved forward is so long.
      forward_long : length (moved two b) ≡ size
      forward_long = length_moved two b A ∙ sym e

      -- 16: the room is shorter.
      pub forward_short : (answered l : ℕ) → length room < size → answered ≡ 16 → l ≡ 0 → MovesForward b room answered l room
      unfolding forward forward_grounds
      forward_short answered l h =
          own_refuses b (forward_own b (length room)) (moved two b) room A 16 answered l (rw (E, lt-ltb (length room) (length (moved two b)) (omega (arith, forward_long)))) (λ z. absurd (omega arith))

      -- Else the image is moved.
      pub forward-built : (after : List ℕ) → size ≤ length room → after ≡ filled (moved two b) room → MovesForward b room 0 size after
      unfolding forward forward_grounds
      forward-built after h =
          none_refuses b (forward_own b (length room)) (moved two b) room A after size (rw (E, le-ltb (length room) (length (moved two b)) (omega (arith, forward_long)))) (sym forward_long)

    module _ (E : image.edition b ≡ two) (many : Bool) (m : many ≡ any (image.states b) (λ s. ltb 1 (label_count b 268 s))) where
      -- A list is longer than one where a count is above 1.
      many_is : any (image.states b) (λ s. ltb 1 (length (image.labels b s))) ≡ many
      many_is = many_counted b E ∙ sym m

      -- 21: a list is longer than one.
      pub back_many : (answered l : ℕ) → many ≡ true → answered ≡ 21 → l ≡ 0 → MovesBack b room answered l room
      unfolding back back_grounds
      back_many answered l h = own_refuses b (back_own b (length room)) (moved one b) room A 21 answered l (rw (E, many_is, h)) (λ z. absurd (omega arith))

      module _ (few : many ≡ false) (size : ℕ) (e : size ≡ image_length_of (image.states b) (image.entries b) 0) where
        -- The image moved back is so long.
        back_long : length (moved one b) ≡ size
        unfolding labels_held_of
        back_long = length_moved one b A ∙ sym e

        -- 16: the room is shorter.
        pub back_short : (answered l : ℕ) → length room < size → answered ≡ 16 → l ≡ 0 → MovesBack b room answered l room
        unfolding back back_grounds
        back_short answered l h =
            own_refuses b (back_own b (length room)) (moved one b) room A 16 answered l (rw (E, many_is, few, lt-ltb (length room) (length (moved one b)) (omega (arith, back_long)))) (λ z. absurd (omega arith))

        -- Else the image is moved.
        pub back-built : (after : List ℕ) → size ≤ length room → after ≡ filled (moved one b) room → MovesBack b room 0 size after
        unfolding back back_grounds
        back-built after h =
            none_refuses b (back_own b (length room)) (moved one b) room A after size (rw (E, many_is, few, le-ltb (length room) (length (moved one b)) (omega (arith, back_long)))) (sym back_long)
