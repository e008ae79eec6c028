-- States alike for so many rounds: what a round adds, and that this is what words of so many classes cannot tell apart.
use mathlib.Core.Path.{◌≡◌, refl}
use mathlib.Core.List.{List, [], ◌∷◌}
use Prim.Native.Nat.{ℕ, zero, suc, ◌<◌}
use native.Mathlib.Omega.{arith}
use Rattle.reduction.proofs.Words.{SameEnds}

module _ (k : ℕ) (T : ℕ → ℕ → ℕ) (lab : ℕ → List ℕ) where
  -- At first equal labels; each round asks for next states alike in the round before.
  abbrev pub Alike : ℕ → ℕ → ℕ → Type 0
  Alike zero x y = lab x ≡ lab y
  Alike (suc i) x y = Alike i x y × ((c : ℕ) → c < k → Alike i (T x c) (T y c))

  -- States alike have equal labels.
  pub alike-labels : (i x y : ℕ) → Alike i x y → lab x ≡ lab y
  alike-labels zero x y e = e
  alike-labels (suc i) x y (e, f) = alike-labels i x y e

  -- No word of at most as many classes as rounds tells them apart.
  pub alike-ends : (i x y : ℕ) → Alike i x y → SameEnds k T T lab lab i x y
  alike-ends i x y e [] l a = alike-labels i x y e
  alike-ends zero x y e (c ∷ w) l a = absurd (omega arith)
  alike-ends (suc i) x y e (c ∷ w) l (h, a) = alike-ends i (T x c) (T y c) (e.1 c h) w (omega arith) a

  -- What no such word tells apart is alike.
  pub ends-alike : (i x y : ℕ) → SameEnds k T T lab lab i x y → Alike i x y
  ends-alike zero x y e = e [] (omega arith) refl
  ends-alike (suc i) x y e =
      (ends-alike i x y (λ w l a. e w (omega arith) a), λ c h. ends-alike i (T x c) (T y c) (λ w l a. e (c ∷ w) (omega arith) (h, a)))
