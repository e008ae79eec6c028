-- A forest of the states below n: no tree has states both below n and not below n.
use mathlib.Core.Logic.{inl, inr}
use Prim.Native.Nat.{ℕ, ◌<◌}
use native.Mathlib.Omega.{arith}
use Rattle.paper.specs.Forest.{Trees, singles, joined}
use Rattle.paper.proofs.Join.{Mates}
use Rattle.paper.proofs.Bridge.{joined_bridge}

-- The mates of states below n are below n.
abbrev pub Inside : ℕ → Trees → Type 0
Inside n F = (x y : ℕ) → x < n → Mates F x y → y < n

-- Single states have no other mates.
pub singles_inside : (n : ℕ) → Inside n singles
unfolding singles
singles_inside n x y l e = omega arith

-- Joining two trees of states below n keeps that.
pub joined_inside : (n : ℕ) (F : Trees) (u v : ℕ) → ¬ Mates F u v → u < n → v < n → Inside n F → Inside n (joined F u v)
joined_inside n F u v apart ub vb I x y l h =
    elim ((joined_bridge F u v apart).faces x) [
      | inl s ↦ elim (s y h) [ inl e ↦ I x y l e | inr e ↦ I v y vb e.1 ]
      | inr s ↦ elim (s y h) [ inl e ↦ I x y l e | inr e ↦ I u y ub e.1 ]
    ]
