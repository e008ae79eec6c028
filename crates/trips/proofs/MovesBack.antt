-- Each move undoes the other, byte for byte; what it leaves is an accepted image of the other edition.
use mathlib.Core.Path.{◌≡◌, sym, ap, ◌∙◌}
use mathlib.Core.List.{List}
use Prim.Native.Nat.{ℕ, ◌≤◌, ◌<◌}
use native.Mathlib.Omega.{arith}
use lib.ListN.{length, take}
use Rattle.paper.specs.Words.{Bytes}
use Rattle.paper.specs.Labels.{Edition, one, two}
use Rattle.paper.specs.Image as image
use Rattle.paper.specs.Results.{moved}
use Rattle.paper.specs.Operations.{judge_image_of, result, building, forward, back}
use Rattle.paper.specs.Promises.{IsBuilt, MovesForward, MovesBack}
use Rattle.facts.proofs.ImageFacts.{accepted_image}
use Rattle.trips.proofs.Building.{result_promised}
use Rattle.trips.proofs.Moved.{moved-reads, moved_accepted, moved_back}
use Rattle.trips.proofs.Moves.{few_own, Moves, forward_accepts, back_accepts, forward_leaves, back_leaves}

module _ {from to : Edition} {b : List ℕ} {room : ℕ} (B : Bytes b) (M : Moves from to b room) where
  -- The image moved is accepted.
  pub moves_accepted : judge_image_of (moved to b) ≡ 0
  moves_accepted = moved_accepted b B (accepted_image b M.judged) to M.few

  -- It is of the other edition.
  pub moves_edition : image.edition (moved to b) ≡ to
  moves_edition = (moved-reads b B (accepted_image b M.judged) to M.few).edition_is

  -- Moved back it is the image.
  moves_again : moved from (moved to b) ≡ b
  moves_again = ap (λ (e : Edition). moved e (moved to b)) (sym M.edition_is) ∙ moved_back b B (accepted_image b M.judged) to M.few

  -- With room for the image it can be moved back.
  pub moves_back : (room' : ℕ) → length b ≤ room' → Moves to from (moved to b) room'
  moves_back room' h =
      let R = moved-reads b B (accepted_image b M.judged) to M.few in
      record {
        judged = moves_accepted;
        edition_is = moves_edition;
        few = λ s hs.
            let l : s < image.states b = omega (arith, R.view_is.states_same) in
            omega (arith, ap length (R.labels_are s l), few_own b M.judged M.edition_is s l);
        fits = rw moves_again h;
      }

  -- What is then left is the image.
  again_built : (room' : List ℕ) → building 0 (moved from (moved to b)) room' ≡ building 0 b room'
  again_built room' = ap (λ (x : List ℕ). building 0 x room') moves_again

-- Back of what forward leaves gives the image.
pub back_forwarded : (b room room' : List ℕ) → Bytes b → (forward b room).number ≡ 0 → length b ≤ length room' → back (result (forward b room)) room' ≡ building 0 b room'
back_forwarded b room room' B e h =
    let (M, w) = forward_leaves b room e in
    ap (λ (x : List ℕ). back x room') w ∙ back_accepts (moved two b) room' (moves_back B M (length room') h) ∙ again_built B M room'

-- Forward of what back leaves gives the image.
pub forward_backed : (b room room' : List ℕ) → Bytes b → (back b room).number ≡ 0 → length b ≤ length room' → forward (result (back b room)) room' ≡ building 0 b room'
forward_backed b room room' B e h =
    let (M, w) = back_leaves b room e in
    ap (λ (x : List ℕ). forward x room') w ∙ forward_accepts (moved one b) room' (moves_back B M (length room') h) ∙ again_built B M room'

-- So with what is promised: the numbers and the room that forward leaves, and those that back leaves of its result.
pub moves_forward-back : (b room room' : List ℕ) (number l number' l' : ℕ) (r r' : List ℕ) → Bytes b → MovesForward b room number l r → number ≡ 0
    → MovesBack (take l r) room' number' l' r' → length b ≤ length room' → IsBuilt (building 0 b room') number' l' r'
moves_forward-back b room room' number l number' l' r r' B P e Q h =
    result_promised (λ x. back x room') P Q (back_forwarded b room room' B (sym P.number_is ∙ e) h)

-- And the other way round.
pub moves_back-forward : (b room room' : List ℕ) (number l number' l' : ℕ) (r r' : List ℕ) → Bytes b → MovesBack b room number l r → number ≡ 0
    → MovesForward (take l r) room' number' l' r' → length b ≤ length room' → IsBuilt (building 0 b room') number' l' r'
moves_back-forward b room room' number l number' l' r r' B P e Q h =
    result_promised (λ x. forward x room') P Q (forward_backed b room room' B (sym P.number_is ∙ e) h)
