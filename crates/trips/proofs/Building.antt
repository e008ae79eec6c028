-- What an operation that builds leaves: where it accepts, its result stands at the beginning of its room.
use mathlib.Core.Path.{◌≡◌, refl, sym, ap₂, ◌∙◌}
use mathlib.Core.Bool.{true}
use mathlib.Core.List.{List, [], ◌∷◌, ◌++◌}
use Prim.Native.Nat.{ℕ, zero, suc, ◌≤◌}
use native.Mathlib.Omega.{arith}
use lib.ListN.{length, take, drop, length-append}
use lib.Seq.{take_at}
use Rattle.paper.specs.Refusals.{Ground, first}
use Rattle.paper.specs.Operations.{Built, result, building}
use Rattle.paper.specs.Promises.{IsBuilt}
use Rattle.paper.proofs.Refusals.{numbered, past, first_append}

-- Only without a refusal is the number 0, and the result is then what was built.
pub built-result : (g : ℕ) (bytes room : List ℕ) → (building g bytes room).number ≡ 0 → (g ≡ 0) × (result (building g bytes room) ≡ bytes)
built-result zero bytes room e = (refl, take_at bytes (drop (length bytes) room) (length bytes) refl)
built-result (suc g) bytes room e = absurd (omega arith)

-- A result is no longer than the room that it is left in.
pub result_fits : (number : ℕ) (bytes room : List ℕ) → (building number bytes room).result_length ≤ length (building number bytes room).room
result_fits zero bytes room = omega (arith, length-append bytes (drop (length bytes) room))
result_fits (suc number) bytes room = omega arith

-- Where the length is 0 there is none.
pub result_none : (o : Built) → o.result_length ≡ 0 → result o ≡ []
result_none o e = rw e (none o.room)
  where
    none : (room : List ℕ) → take 0 room ≡ []
    none [] = refl
    none (x ∷ room) = refl

-- The numbers and the room that are promised hold the result, so that a second operation on them is one on the result.
pub result_promised : {o q : Built} {number l number' l' : ℕ} {r r' : List ℕ} (second : List ℕ → Built) → IsBuilt o number l r → IsBuilt (second (take l r)) number' l' r'
    → second (result o) ≡ q → IsBuilt q number' l' r'
result_promised {o} second P Q e =
    rw (← e, ← ap₂ (λ (l : ℕ) (r : List ℕ). take l r) P.length_is P.room_is) Q

-- The grounds of two lists, one behind the other.
module _ (a b : List Ground) (h : numbered a ≡ true) where
  -- Where none applies, none of either does.
  pub first_both : first (a ++ b) ≡ 0 → (first a ≡ 0) × (first b ≡ 0)
  first_both e = go (first a) refl (sym (first_append a b h) ∙ e)
    where
      go : (x : ℕ) → first a ≡ x → past x (first b) ≡ 0 → (first a ≡ 0) × (first b ≡ 0)
      go zero q w = (q, w)
      go (suc x) q w = absurd (omega arith)

  -- Where none of either applies, none does.
  pub first_neither : first a ≡ 0 → first b ≡ 0 → first (a ++ b) ≡ 0
  first_neither p q = first_append a b h ∙ rw (p, q)
