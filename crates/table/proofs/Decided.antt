-- Grounds tested one by one: the number is decided by those that are left.
use mathlib.Core.Path.{◌≡◌, sym, ◌∙◌}
use mathlib.Core.Bool.{Bool, true, false}
use mathlib.Core.List.{List, [], ◌∷◌}
use Prim.Native.Nat.{ℕ}
use Rattle.paper.specs.Refusals.{Ground, first}

-- The number is that of the first of these grounds that applies.
pub record Decided (number : ℕ) (gs : List Ground) : Type 0 where
  pub decided : number ≡ first gs

-- A ground that does not apply is passed.
pub passed : {number r : ℕ} {b : Bool} {gs : List Ground} → Decided number ((r, b) ∷ gs) → b ≡ false → Decided number gs
passed D e = record { decided = D.decided ∙ rw e }

-- A ground that applies gives its number.
pub applies : {number r : ℕ} {b : Bool} {gs : List Ground} → Decided number ((r, b) ∷ gs) → b ≡ true → r ≡ number
applies D e = sym (D.decided ∙ rw e)

-- Where no ground is left the number is 0.
pub none_left : {number : ℕ} → Decided number [] → 0 ≡ number
none_left D = sym D.decided
