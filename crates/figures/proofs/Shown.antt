-- The figures of what compact leaves: of an accepted image its own, and 0 where it was refused.
use mathlib.Core.Path.{◌≡◌, sym, ap, ap₂, ◌∙◌}
use mathlib.Core.List.{List}
use Prim.Native.Nat.{ℕ, ◌≤◌}
use lib.ListN.{length, take}
use Rattle.paper.specs.Words.{Bytes, number16, number32}
use Rattle.paper.specs.Image.{depth, entries, worst}
use Rattle.paper.specs.Refusals.{first}
use Rattle.paper.specs.Operations.{result, compacted, compact_grounds, compact}
use Rattle.paper.specs.Programs.{defaults_in_of}
use Rattle.paper.specs.Promises.{Compacts}
use Rattle.paper.proofs.Refused.{compact_refused}
use Rattle.facts.proofs.ImageFacts.{AcceptedImage, accepted_image}
use Rattle.trips.proofs.Building.{result_fits, result_none}
use Rattle.demands.proofs.Compacted.{compacted_accepted}
use Rattle.figures.specs.Figures.{Shows}

module _ (t : List ℕ) (order D : ℕ) (room : List ℕ) {number l : ℕ} {left : List ℕ} (P : Compacts t order D room number l left) where
  -- What stands at the front of the room is the image that was built.
  pub image_is : take l left ≡ result (compact t order D room)
  image_is = ap₂ (λ (i : ℕ) (r : List ℕ). take i r) P.length_is P.room_is

  -- It is no longer than the room.
  pub image_fits : l ≤ length left
  unfolding compact
  image_fits = rw (P.length_is, P.room_is) (result_fits (first (compact_grounds t order D (length room))) (compacted t order D) room)

  -- It is accepted.
  pub image_accepted : Bytes t → number ≡ 0 → AcceptedImage (take l left)
  image_accepted B e = rw image_is (accepted_image (result (compact t order D room)) (compacted_accepted t order D room B (sym P.number_is ∙ e)))

  -- Where it was refused no bytes are built, and every figure is 0.
  pub refused_shows : ¬ (number ≡ 0) → Shows (compact t order D room) number 0 0 0 0 0
  unfolding number16 number32
  refused_shows h =
      let e : (compact t order D room).result_length ≡ 0 = (compact_refused t order D room (λ z. h (P.number_is ∙ z))).0 in
      let nothing = result_none (compact t order D room) e in
      record {
        number_is = P.number_is;
        deep_is = sym (ap depth nothing);
        far_is = sym (ap worst nothing);
        stored_is = sym (ap entries nothing);
        defaults_are = sym (ap defaults_in_of nothing);
        bytes_are = sym e;
      }

  -- The figures of the image are those to show.
  pub accepted_shows : {number' deep far stored defaults bytes : ℕ} → number ≡ 0 → number' ≡ 0 → deep ≡ depth (take l left) → far ≡ worst (take l left) → stored ≡ entries (take l left)
      → defaults ≡ defaults_in_of (take l left) → bytes ≡ l → Shows (compact t order D room) number' deep far stored defaults bytes
  accepted_shows z e d f s g b =
      record {
        number_is = e ∙ sym z ∙ P.number_is;
        deep_is = d ∙ ap depth image_is;
        far_is = f ∙ ap worst image_is;
        stored_is = s ∙ ap entries image_is;
        defaults_are = g ∙ ap defaults_in_of image_is;
        bytes_are = b ∙ P.length_is;
      }
