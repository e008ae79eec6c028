-- The centre of a tree: its d is the longest path halved and rounded up.
use mathlib.Core.Path.{◌≡◌, sym, ◌∙◌, ap}
use mathlib.Core.Logic.{inl, inr}
use Prim.Native.Nat.{ℕ, ◌+◌, ◌/◌, ◌≤◌, ◌<◌}
use native.Mathlib.Omega.{arith}
use native.Mathlib.Decide.{ℕ_discrete}
use Rattle.paper.specs.Forest.{Trees, d, longest}
use Rattle.paper.proofs.Join.{Mates}
use Rattle.trees.proofs.Metric.{Metric}
use Rattle.trees.proofs.Inside.{Inside}
use Rattle.trees.proofs.Farthest.{d_upper, d_attained}
use Rattle.trees.proofs.Longest.{longest_upper, longest_least}

-- No state of c's tree has a smaller d.
abbrev pub Centre : ℕ → Trees → ℕ → Type 0
Centre n F c = (y : ℕ) → y < n → Mates F c y → d n F c ≤ d n F y

module _ (n : ℕ) (F : Trees) (M : Metric F) (I : Inside n F) (c : ℕ) (cb : c < n) where
  -- Every path goes no farther than to c and on from it.
  longest-twice : longest n F c ≤ d n F c + d n F c
  longest-twice =
      longest_least n F c _ (λ y z yb zb h k.
      omega (arith, M.tri y c z (sym h) (sym h ∙ k), M.flip c y h, d_upper n F c y yb h, d_upper n F c z zb k))

  module _ (C : Centre n F c) where
    -- From a neighbour p of c on the way to the state w farthest from c the farthest state r lies behind c.
    behind : (w : ℕ) → w < n → Mates F c w → F.distance c w ≡ d n F c → ¬ (c ≡ w) → d n F c + d n F c ≤ longest n F c + 1
    behind w wb hw ew ne =
        let (p, N) = M.near c w hw ne in
        let hp : Mates F c p = N.mate in
        let pb = I c p cb hp in
        let (r, rb, m, er) = d_attained n F p pb in
        let hr : Mates F c r = hp ∙ m in
        elim (M.edge c p r hp hr N.step) [
          | inl q ↦
              omega (
                arith,
                longest_upper n F c r w rb wb hr hw,
                C p pb hp,
                er,
                N.less,
                M.flip r p (sym m),
                M.cut c p r w hp hr hw N.step q (omega (arith, M.flip w p (sym hw ∙ hp), M.flip w c (sym hw), N.less)),
              )
          | inr q ↦ absurd (omega (arith, C p pb hp, er, M.flip r p (sym m), M.flip r c (sym hr), d_upper n F c r rb hr))
        ]

    -- So twice its d is at most the longest path and one.
    half : d n F c + d n F c ≤ longest n F c + 1
    half =
        let (w, wb, hw, ew) = d_attained n F c cb in
        elim (ℕ_discrete c w) [
          | yes e ↦ omega (arith, ew, M.self c, ap (F.distance c) e)
          | no ne ↦ behind w wb hw ew ne
        ]

    -- The centre's d is the longest path halved and rounded up.
    pub centre_d : d n F c ≡ (longest n F c + 1) / 2
    centre_d = omega (arith, longest-twice, half)
