-- The states on the path between two states of a tree: at each distance there is one.
use mathlib.Core.Path.{◌≡◌, sym, ◌∙◌, ap}
use mathlib.Core.Logic.{inl, inr}
use Prim.Native.Nat.{ℕ, ◌+◌}
use native.Mathlib.Omega.{arith}
use native.Mathlib.Decide.{ℕ_discrete}
use Rattle.paper.specs.Forest.{Trees}
use Rattle.paper.proofs.Join.{Mates}
use Rattle.trees.proofs.Metric.{Metric}

-- The state x is on the path from u to r.
abbrev pub OnPath : Trees → ℕ → ℕ → ℕ → Type 0
OnPath F u r x = F.distance u x + F.distance x r ≡ F.distance u r

module _ (F : Trees) (M : Metric F) (u r : ℕ) (ur : Mates F u r) where
  module _ (x y : ℕ) (hx : Mates F u x) (hy : Mates F u y) (px : OnPath F u r x) (py : OnPath F u r y) (e : F.distance u x ≡ F.distance u y) where
    -- From x another than r there is a step p towards r, and u and y lie on x's side of it.
    before_end : ¬ (x ≡ r) → x ≡ y
    before_end ne =
        let xr : Mates F x r = sym hx ∙ ur in
        let (p, N) = M.near x r xr ne in
        let hp = N.mate in
        let side : F.distance r p + 1 ≡ F.distance r x = omega (arith, N.less, M.flip r p (sym xr ∙ hp), M.flip r x (sym xr)) in
        elim (M.edge x p y hp (sym hx ∙ hy) N.step) [
          | inl q ↦ sym (M.apart0 y x (sym hy ∙ hx) (omega (arith, M.cut x p y r hp (sym hx ∙ hy) xr N.step q side, N.less)))
          | inr q ↦ elim (M.edge x p u hp (sym hx) N.step) [
            | inl s ↦ absurd (omega (arith, M.cut x p u y hp (sym hx) (sym hx ∙ hy) N.step s q))
            | inr s ↦ absurd (omega (arith, N.less, M.tri u p r (hx ∙ hp) ur))
          ]
        ]

    -- Two states on the path at one distance from u are one.
    pub on_path_one : x ≡ y
    on_path_one =
        elim (ℕ_discrete x r) [
          | yes xr ↦ xr ∙ sym (M.apart0 y r (sym hy ∙ ur) (omega (arith, M.self r, ap (λ (z : ℕ). F.distance z r) xr)))
          | no ne ↦ before_end ne
        ]
