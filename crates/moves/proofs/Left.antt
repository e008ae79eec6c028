-- What a move leaves: an accepted image, of the other edition.
use mathlib.Core.Path.{◌≡◌, ap, ◌∙◌}
use mathlib.Core.List.{List}
use Prim.Native.Nat.{ℕ}
use Rattle.paper.specs.Words.{Bytes}
use Rattle.paper.specs.Labels.{one, two}
use Rattle.paper.specs.Image.{edition}
use Rattle.paper.specs.Operations.{judge_image_of, result, forward, back}
use Rattle.trips.proofs.Moves.{forward_leaves, back_leaves}
use Rattle.trips.proofs.MovesBack.{moves_accepted, moves_edition}

-- Forward.
pub forward-left : (b room : List ℕ) → Bytes b → (forward b room).number ≡ 0 → (judge_image_of (result (forward b room)) ≡ 0) × (edition b ≡ one) × (edition (result (forward b room)) ≡ two)
forward-left b room B e = let (M, w) = forward_leaves b room e in (ap judge_image_of w ∙ moves_accepted B M, M.edition_is, ap edition w ∙ moves_edition B M)

-- Back.
pub back-left : (b room : List ℕ) → Bytes b → (back b room).number ≡ 0 → (judge_image_of (result (back b room)) ≡ 0) × (edition b ≡ two) × (edition (result (back b room)) ≡ one)
back-left b room B e = let (M, w) = back_leaves b room e in (ap judge_image_of w ∙ moves_accepted B M, M.edition_is, ap edition w ∙ moves_edition B M)
