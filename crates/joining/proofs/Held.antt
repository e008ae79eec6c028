-- Trees held in arrays, one of them turned to a state of it: the same trees are held with the new parents.
use mathlib.Core.Path.{◌≡◌, refl, sym, ◌∙◌}
use mathlib.Core.List.{List}
use Prim.Native.Nat.{ℕ, ◌<◌}
use native.Mathlib.Omega.{arith}
use native.Mathlib.Decide.{ℕ_discrete}
use lib.ListN.{get_or}
use Rattle.paper.specs.Forest.{Trees}
use Rattle.paper.proofs.Join.{Mates}
use Rattle.trees.proofs.Metric.{Metric}
use Rattle.trees.proofs.Inside.{Inside}
use Rattle.trees.proofs.Farthest.{d_upper}
use Rattle.joining.specs.Rooted.{Rooted, Turned}
use Rattle.joining.specs.Held.{Held}

-- Parents that agree on a tree lead to the same state.
pub rooted_same : (F : Trees) (old new : List ℕ) (r : ℕ) → ((x : ℕ) → Mates F r x → get_or new x 0 ≡ get_or old x 0)
    → Rooted F old r → Rooted F new r
rooted_same F old new r same R =
    record { own = same r refl ∙ R.own; up = λ x m ne. rw (same x m) (R.up x m ne) }

module _ (n : ℕ) (F : Trees) (M : Metric F) (I : Inside n F) (far parent tree new : List ℕ) (H : Held n F far parent tree)
    (x : ℕ) (xb : x < n) (T : Turned parent x (get_or far x 0) new) where
  -- The root was no farther from x than the farthest state.
  turns : (Rooted F new x) × ((y : ℕ) → ¬ Mates F x y → get_or new y 0 ≡ get_or parent y 0)
  turns =
      let (r, m, R) = H.roots x xb in
      T F M r m R (omega (arith, H.farthest x xb, d_upper n F x r (I x r xb m) m))

  -- The parents lead to x.
  pub turned_here : Rooted F new x
  turned_here = turns.0

  -- In another tree they lead where they led.
  pub turned_elsewhere : (r : ℕ) → ¬ Mates F x r → Rooted F parent r → Rooted F new r
  turned_elsewhere r other = rooted_same F parent new r (λ y m. turns.1 y (λ h. other (h ∙ sym m)))

  -- The same trees are held.
  pub turned_held : Held n F far new tree
  turned_held =
      record {
        numbers = H.numbers;
        farthest = H.farthest;
        roots = λ y yb. elim (ℕ_discrete (F.tree x) (F.tree y)) [
          | yes e ↦ (x, sym e, turned_here)
          | no ne ↦ let (r, m, R) = H.roots y yb in (r, m, turned_elsewhere r (λ h. ne (h ∙ sym m)) R)
        ];
      }
