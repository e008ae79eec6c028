-- Laws of rooms of which only one stretch was written.
use mathlib.Core.Path.{◌≡◌, refl, ◌∙◌}
use mathlib.Core.List.{List}
use Prim.Native.Nat.{ℕ, ◌+◌, ◌≤◌, ◌<◌}
use native.Mathlib.Omega.{arith}
use lib.ListN.{length}
use Rattle.paper.specs.Words.{number16, bytes16}
use Rattle.words.specs.Placed.{placed}
use Rattle.words.proofs.Placed.{length-placed}
use Rattle.spread.specs.Kept.{Kept}
use Rattle.spread.proofs.Placing.{number_same, byte_before, byte_behind}

-- A room is kept as it is, whatever the stretch.
pub kept_same : (room : List ℕ) (from to : ℕ) → Kept room room from to
kept_same room from to = record { long = refl; before = λ i h. refl; behind = λ i h. refl }

-- One stretch written and then another is a stretch around both.
pub kept_then : {old room last : List ℕ} {from to from' to' : ℕ} (x z : ℕ) → Kept old room from to → Kept room last from' to'
    → x ≤ from → x ≤ from' → to ≤ z → to' ≤ z → Kept old last x z
kept_then x z K L a a' e e' =
    record {
      long = L.long ∙ K.long;
      before = λ i h. L.before i (omega arith) ∙ K.before i (omega arith);
      behind = λ i h. L.behind i (omega arith) ∙ K.behind i (omega arith);
    }

-- A place is a stretch.
pub kept-placed : (room : List ℕ) (at : ℕ) (bs : List ℕ) (to : ℕ) → at + length bs ≡ to → to ≤ length room → Kept room (placed room at bs) at to
kept-placed room at bs to e h =
    record {
      long = length-placed room at bs (omega arith);
      before = byte_before room at bs (omega arith);
      behind = λ i l. byte_behind room at bs (omega arith) i (omega arith);
    }

-- That of a number has two bytes.
pub kept_number : (room : List ℕ) (at x : ℕ) → at + 1 < length room → Kept room (placed room at (bytes16 x)) at (at + 2)
unfolding bytes16
kept_number room at x h = kept-placed room at (bytes16 x) (at + 2) refl (omega arith)

module _ {old room : List ℕ} {from to : ℕ} (K : Kept old room from to) (at : ℕ) where
  -- A number before the stretch stays.
  pub number_before : at + 2 ≤ from → number16 room at ≡ number16 old at
  number_before h = number_same room old at at (K.before at (omega arith)) (K.before (at + 1) (omega arith))

  -- So does one behind it.
  pub number_behind : to ≤ at → number16 room at ≡ number16 old at
  number_behind h = number_same room old at at (K.behind at (omega arith)) (K.behind (at + 1) (omega arith))
