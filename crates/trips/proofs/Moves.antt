-- The moves: when they accept, and what they leave.
use mathlib.Core.Path.{◌≡◌, refl, sym, ap}
use mathlib.Core.Bool.{not}
use mathlib.Core.List.{List, [], ◌∷◌}
use Prim.Native.Nat.{ℕ, ◌≤◌, ◌<◌}
use native.Mathlib.Omega.{arith}
use lib.Dec.{ltb}
use lib.ListN.{length}
use borrow.Author.Tests.{le-ltb, ltb-false}
use Rattle.paper.specs.Below.{any}
use Rattle.paper.specs.Refusals.{Ground, first}
use Rattle.paper.specs.Labels.{Edition, one, two, is_two}
use Rattle.paper.specs.View.{view_grounds}
use Rattle.paper.specs.Image as image
use Rattle.paper.specs.Image.{image_grounds}
use Rattle.paper.specs.Results.{moved}
use Rattle.paper.specs.Operations.{judge_image_of, result, building, forward_grounds, forward, back_grounds, back}
use Rattle.paper.proofs.Below.{any_at, any_none}
use Rattle.paper.proofs.Editions.{not_two_one, not_one_two}
use Rattle.paper.proofs.Refusals.{Clear, accepted, cleared}
use Rattle.facts.proofs.LabelFacts.{most_labels, labelled_same}
use Rattle.facts.proofs.ImageFacts.{accepted_image}
use Rattle.trips.proofs.Building.{built-result, first_both, first_neither}

-- No state of an image has more labels than the edition allows.
abbrev pub FewFor : Edition → List ℕ → Type 0
FewFor e b = (s : ℕ) → s < image.states b → length (image.labels b s) ≤ most_labels e

-- An accepted image has not too many for its own.
pub few_own : (b : List ℕ) {e : Edition} → judge_image_of b ≡ 0 → image.edition b ≡ e → FewFor e b
few_own b z E s hs = (labelled_same (sym E) refl ((accepted_image b z).all_labelled s hs)).few

-- What a move accepts: an accepted image of one edition, few labels for the other, and room for the image moved.
pub record Moves (from to : Edition) (b : List ℕ) (room : ℕ) : Type 0 where
  pub judged : judge_image_of b ≡ 0
  pub edition_is : image.edition b ≡ from
  pub few : FewFor to b
  pub fits : length (moved to b) ≤ room

-- Forward's own grounds, behind the image's.
abbrev pub forward_own : List ℕ → ℕ → List Ground
forward_own b room = (20, is_two (image.edition b)) ∷ (16, ltb room (length (moved two b))) ∷ []

-- Back's own grounds.
abbrev pub back_own : List ℕ → ℕ → List Ground
back_own b room =
    (20, not (is_two (image.edition b)))
    ∷ (21, any (image.states b) (λ s. ltb 1 (length (image.labels b s))))
    ∷ (16, ltb room (length (moved one b)))
    ∷ []

-- Where none of its grounds applies forward moves.
forward_clear : (b : List ℕ) (room : ℕ) → first (forward_grounds b room) ≡ 0 → Moves one two b room
unfolding forward_grounds judge_image_of image_grounds view_grounds
forward_clear b room e =
    let (judged, own) = first_both (image_grounds b) (forward_own b room) refl e in
    let c : Clear (forward_own b room) = accepted (forward_own b room) refl own in
    let E = not_two_one (image.edition b) c.0 in
    record { judged = judged; edition_is = E; few = λ s hs. omega (arith, few_own b judged E s hs); fits = ltb-false room (length (moved two b)) c.1.0 }

-- Where none of its grounds applies back moves.
back_clear : (b : List ℕ) (room : ℕ) → first (back_grounds b room) ≡ 0 → Moves two one b room
unfolding back_grounds judge_image_of image_grounds view_grounds
back_clear b room e =
    let (judged, own) = first_both (image_grounds b) (back_own b room) refl e in
    let c : Clear (back_own b room) = accepted (back_own b room) refl own in
    record {
      judged = judged;
      edition_is = not_one_two (image.edition b) c.0;
      few = λ s hs. ltb-false 1 (length (image.labels b s)) (any_at (image.states b) s (λ s. ltb 1 (length (image.labels b s))) c.1.0 hs);
      fits = ltb-false room (length (moved one b)) c.1.1.0;
    }

-- Forward accepts what can be moved.
pub forward_accepts : (b room : List ℕ) → Moves one two b (length room) → forward b room ≡ building 0 (moved two b) room
unfolding forward forward_grounds judge_image_of image_grounds view_grounds
forward_accepts b room M =
    ap (λ (g : ℕ). building g (moved two b) room)
    (first_neither (image_grounds b) (forward_own b (length room)) refl M.judged
    (cleared (forward_own b (length room)) (ap is_two M.edition_is, (le-ltb (length room) (length (moved two b)) M.fits, refl))))

-- Back accepts what can be moved.
pub back_accepts : (b room : List ℕ) → Moves two one b (length room) → back b room ≡ building 0 (moved one b) room
unfolding back back_grounds judge_image_of image_grounds view_grounds
back_accepts b room M =
    ap (λ (g : ℕ). building g (moved one b) room)
    (first_neither (image_grounds b) (back_own b (length room)) refl M.judged
    (cleared (back_own b (length room)) (
      ap (λ (e : Edition). not (is_two e)) M.edition_is,
      (
        any_none (image.states b) (λ s. ltb 1 (length (image.labels b s))) (λ s hs. le-ltb 1 (length (image.labels b s)) (M.few s hs)),
        (le-ltb (length room) (length (moved one b)) M.fits, refl),
      ),
    )))

-- What forward accepts it moves, and leaves the image moved.
pub forward_leaves : (b room : List ℕ) → (forward b room).number ≡ 0 → Moves one two b (length room) × (result (forward b room) ≡ moved two b)
unfolding forward
forward_leaves b room e =
    let (z, w) = built-result (first (forward_grounds b (length room))) (moved two b) room e in
    (forward_clear b (length room) z, w)

-- So does back.
pub back_leaves : (b room : List ℕ) → (back b room).number ≡ 0 → Moves two one b (length room) × (result (back b room) ≡ moved one b)
unfolding back
back_leaves b room e =
    let (z, w) = built-result (first (back_grounds b (length room))) (moved one b) room e in
    (back_clear b (length room) z, w)
