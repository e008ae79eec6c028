-- The weights taken from the top down: what the arrays become.
use mathlib.Core.Path.{◌≡◌, refl, ◌∙◌}
use mathlib.Core.List.{List}
use Prim.Native.Nat.{ℕ, zero, suc, ◌-◌, ◌<◌}
use native.Mathlib.Omega.{arith}
use Rattle.paper.specs.Forest.{Trees, falling}
use Rattle.trees.proofs.Best.{level_of}
use Rattle.joining.specs.Held.{Whole}
use Rattle.greedy.specs.Good.{Becomes}
use Rattle.greedy.proofs.Becomes.{becomes_same, becomes_then}

module _ (n : ℕ) (rest : Trees → ℕ × ℕ → ℕ) (D : ℕ) (weight : ℕ → ℕ → ℕ) (top : ℕ) where
  -- The weights above w are taken: what those from w down make of the trees held now is what all of them make of the trees before.
  pub record Falls (w : ℕ) (far₀ parent₀ tree₀ far parent tree : List ℕ) : Type 0 where
    pub made : Trees → Trees
    pub becomes : Becomes n D made far₀ parent₀ tree₀ far parent tree
    pub left : (F : Trees) → falling n rest D weight w (made F) ≡ falling n rest D weight top F

  -- At the top none is taken.
  pub falls-start : (far parent tree : List ℕ) → Whole far parent tree → Falls top far parent tree far parent tree
  falls-start far parent tree whole =
      record { made = λ F. F; becomes = becomes_same n D far parent tree whole; left = λ F. refl }

  -- The level of a weight comes before those below it.
  level_first : (w : ℕ) (F : Trees) → 0 < w → falling n rest D weight (w - 1) (level_of n rest D weight w F) ≡ falling n rest D weight w F
  level_first zero F l = absurd (omega arith)
  level_first (suc w) F l = let e : suc w - 1 ≡ w = omega arith in rw e

  module _ (w : ℕ) (far₀ parent₀ tree₀ far parent tree : List ℕ) (A : Falls w far₀ parent₀ tree₀ far parent tree) where
    -- One weight more is taken.
    pub falls_more : 0 < w → (far' parent' tree' : List ℕ) → Becomes n D (level_of n rest D weight w) far parent tree far' parent' tree'
        → Falls (w - 1) far₀ parent₀ tree₀ far' parent' tree'
    falls_more l far' parent' tree' B =
        record {
          made = λ F. level_of n rest D weight w (A.made F);
          becomes = becomes_then n D A.made (level_of n rest D weight w) far₀ parent₀ tree₀ far parent tree far' parent' tree' A.becomes B;
          left = λ F. level_first w (A.made F) l ∙ A.left F;
        }

    -- With no weight left all pairs are taken.
    pub falls_end : w ≡ 0 → Becomes n D (falling n rest D weight top) far₀ parent₀ tree₀ far parent tree
    falls_end e =
        record {
          whole = A.becomes.whole;
          good = λ F G.
              let all : A.made F ≡ falling n rest D weight top F = rw e at (A.left F) in
              rw (← all) (A.becomes.good F G);
        }
