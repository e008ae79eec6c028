-- Laws of the first ground that applies.
use mathlib.Core.Path.{◌≡◌, refl, sym}
use mathlib.Core.Bool.{Bool, true, false, ◌&&◌, true≢false}
use mathlib.Core.List.{List, [], ◌∷◌, ◌++◌}
use Prim.Native.Nat.{ℕ, zero, suc}
use native.Mathlib.Omega.{arith}
use lib.Dec.{ltb}
use Rattle.paper.specs.Refusals.{Ground, first}
use Rattle.paper.proofs.Below.{and_true}

-- No number is 0.
abbrev pub numbered : List Ground → Bool
numbered [] = true
numbered (g ∷ gs) = ltb 0 g.0 && numbered gs

-- No ground applies.
abbrev pub Clear : List Ground → Type 0
Clear [] = ◌≡◌ {A = ℕ} 0 0
Clear (g ∷ gs) = (g.1 ≡ false) × Clear gs

-- A refusal, or what later grounds give.
abbrev pub past : ℕ → ℕ → ℕ
past zero later = later
past (suc r) later = suc r

-- The grounds of one list and then those of another.
pub first_append : (a b : List Ground) → numbered a ≡ true → first (a ++ b) ≡ past (first a) (first b)
first_append [] b h = refl
first_append ((zero, t) ∷ a) b h = absurd (true≢false (sym h))
first_append ((suc r, true) ∷ a) b h = refl
first_append ((suc r, false) ∷ a) b h = first_append a b (and_true (ltb 0 (suc r)) (numbered a) h).1

-- Where the answer is 0 no ground applies.
pub accepted : (gs : List Ground) → numbered gs ≡ true → first gs ≡ 0 → Clear gs
accepted [] h e = refl
accepted ((zero, t) ∷ gs) h e = absurd (true≢false (sym h))
accepted ((suc r, true) ∷ gs) h e = absurd (omega arith)
accepted ((suc r, false) ∷ gs) h e = (refl, accepted gs (and_true (ltb 0 (suc r)) (numbered gs) h).1 e)

-- Where no ground of the first list applies, the second decides.
pub first_clear : (a b : List Ground) → Clear a → first (a ++ b) ≡ first b
first_clear [] b c = refl
first_clear (g ∷ a) b c = rw c.0 (first_clear a b c.1)

-- Where no ground applies the answer is 0.
pub cleared : (gs : List Ground) → Clear gs → first gs ≡ 0
cleared [] c = refl
cleared (g ∷ gs) c = rw c.0 (cleared gs c.1)
