-- Turning a path round in whatever trees the parents are those of, and what is left of the parents.
use mathlib.Core.Path.{◌≡◌, sym, ◌∙◌}
use mathlib.Core.List.{List}
use Prim.Native.Nat.{ℕ, ◌+◌, ◌≤◌, ◌<◌}
use native.Mathlib.Omega.{arith}
use lib.ListN.{length, get_or, set}
use Rattle.paper.specs.Forest.{Trees}
use Rattle.paper.proofs.Join.{Mates}
use Rattle.trees.proofs.Metric.{Metric}
use Rattle.joining.specs.Rooted.{Low, Rooted, Turned}
use Rattle.joining.proofs.Filled.{get_d_set}
use Rattle.joining.proofs.Turning.{Turning, turning_starts, turning_top, turning_goes, turning_keeps, turning_ends}

-- The walk on its way, in whatever trees the old parents led to some state of u's tree.
abbrev pub Turns : List ℕ → ℕ → List ℕ → ℕ → ℕ → ℕ → Type 0
Turns old u new back at k =
    (F : Trees) → Metric F → (r : ℕ) → Mates F u r → Rooted F old r → Turning F old new u r back at k

-- It starts at u.
pub turns_start : (old : List ℕ) (u : ℕ) → Turns old u old u u 0
turns_start old u F M r m R = turning_starts F M old u r m R

module _ (old : List ℕ) (u : ℕ) (new : List ℕ) (back at k : ℕ) (T : Turns old u new back at k) (long : at < length new) where
  -- From a state that is not its own parent it goes on.
  pub turns_go : ¬ (get_or new at 0 ≡ at) → Turns old u (set new at back) at (get_or new at 0) (k + 1)
  turns_go ne F M r m R = turning_goes F M old u r m R new back at k (T F M r m R) long ne

  -- With the root turned the tree is turned to u.
  turned_at : (F : Trees) (M : Metric F) (r : ℕ) → Mates F u r → Rooted F old r → at ≡ r
      → (Rooted F (set new at back) u) × ((x : ℕ) → ¬ Mates F u x → get_or (set new at back) x 0 ≡ get_or old x 0)
  turned_at F M r m R top =
      let t = T F M r m R in
      (turning_ends F M old u r m R new back at k t long top, turning_keeps F M old u r m R new back at k t long)

  -- At a state that is its own parent it is at the root.
  pub turns_top : (most : ℕ) → get_or new at 0 ≡ at → Turned old u most (set new at back)
  turns_top most e F M r m R near = turned_at F M r m R (turning_top F M old u r m R new back at k (T F M r m R) long e)

  -- After as many steps as there can be it is at the root too.
  pub turns_end : (most : ℕ) → most ≤ k → Turned old u most (set new at back)
  turns_end most enough F M r m R near =
      let t = T F M r m R in
      turned_at F M r m R (M.apart0 at r (sym t.mate ∙ m) (omega (arith, t.left)))

-- A place of the array stored as a parent leaves all parents places of the array.
pub low_set : (parent : List ℕ) (i a : ℕ) → i < length parent → a < 512 → Low parent → Low (set parent i a)
low_set parent i a long h low x l = get_d_set (λ p. p < 512) parent i x a long (λ e. h) (λ ne. low x l)
