-- The laws of distances in trees. They say that a tree is a tree: it has paths, and no rings.
use mathlib.Core.Path.{◌≡◌, refl, sym, ◌∙◌}
use mathlib.Core.Logic.{◌⊎◌, inl, inr}
use Prim.Native.Nat.{ℕ, ◌+◌, ◌≤◌}
use native.Mathlib.Omega.{arith}
use Rattle.paper.specs.Forest.{Trees, singles}
use Rattle.paper.proofs.Join.{Mates}

-- The state z is a neighbour of x and one step nearer to y.
pub record Nearer (F : Trees) (x y z : ℕ) : Type 0 where
  pub mate : Mates F x z
  pub step : F.distance x z ≡ 1
  pub less : F.distance z y + 1 ≡ F.distance x y

-- Distances as they are in trees.
pub record Metric (F : Trees) : Type 0 where
  -- A state is at distance 0 from itself.
  pub self : (x : ℕ) → F.distance x x ≡ 0
  -- No other state of its tree is.
  pub apart0 : (x y : ℕ) → Mates F x y → F.distance x y ≡ 0 → x ≡ y
  -- There and back are equally far.
  pub flip : (x y : ℕ) → Mates F x y → F.distance x y ≡ F.distance y x
  -- A way round is no shorter.
  pub tri : (x y z : ℕ) → Mates F x y → Mates F x z → F.distance x z ≤ F.distance x y + F.distance y z
  -- Of two neighbours x and p one is nearer to w, by 1.
  pub edge : (x p w : ℕ) → Mates F x p → Mates F x w → F.distance x p ≡ 1
      → (F.distance w x + 1 ≡ F.distance w p) ⊎ (F.distance w p + 1 ≡ F.distance w x)
  -- A path from a state w on x's side of two neighbours x and p to a state r on p's side goes over the two.
  pub cut : (x p w r : ℕ) → Mates F x p → Mates F x w → Mates F x r → F.distance x p ≡ 1
      → F.distance w x + 1 ≡ F.distance w p → F.distance r p + 1 ≡ F.distance r x
      → F.distance w r ≡ F.distance w x + 1 + F.distance p r
  -- From a state to another of its tree there is a first step.
  pub near : (x y : ℕ) → Mates F x y → ¬ (x ≡ y) → (z : ℕ) × Nearer F x y z

-- Single states have these laws.
pub singles_metric : Metric singles
unfolding singles
singles_metric =
    record {
      self = λ x. refl;
      apart0 = λ x y h e. h;
      flip = λ x y h. refl;
      tri = λ x y z h k. omega arith;
      edge = λ x p w h k e. absurd (omega arith);
      cut = λ x p w r h k l e a b. absurd (omega arith);
      near = λ x y h ne. absurd (ne h);
    }

-- A state has one neighbour nearer to another state.
pub nearer_one : (F : Trees) → Metric F → (x r y z : ℕ) → Mates F x r → Nearer F x r y → Nearer F x r z → y ≡ z
nearer_one F M x r y z m N K =
    elim (M.edge x y z N.mate K.mate N.step) [
      | inl f ↦ absurd (omega (
        arith,
        M.cut x y z r N.mate K.mate m N.step f
            (omega (arith, M.flip y r (sym N.mate ∙ m), M.flip x r m, N.less)),
        M.flip x z K.mate,
        K.step,
        N.less,
        K.less,
      ))
      | inr f ↦ sym (M.apart0 z y (sym K.mate ∙ N.mate) (omega (arith, M.flip x z K.mate, K.step)))
    ]
