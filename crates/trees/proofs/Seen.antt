-- How a bridge is seen from the tree of x: a state over the pair is seen as if it stood at the pair's end there, only farther off.
use mathlib.Core.Path.{◌≡◌, refl, sym, ◌∙◌}
use mathlib.Core.Logic.{inl, inr}
use Prim.Native.Nat.{ℕ, ◌+◌}
use native.Mathlib.Omega.{arith}
use Rattle.paper.specs.Forest.{Trees}
use Rattle.paper.proofs.Join.{Mates}
use Rattle.paper.proofs.Bridge.{Reached, Bridge}
use Rattle.trees.proofs.Metric.{Metric}

-- From the states of x's tree y is seen at a state of that tree, and farther by a fixed number.
pub record Seen (F G : Trees) (x y : ℕ) : Type 0 where
  pub at : ℕ
  pub more : ℕ
  pub mate : Mates F x at
  pub to : (z : ℕ) → Mates F x z → G.distance z y ≡ F.distance z at + more
  pub back : (z : ℕ) → Mates F x z → G.distance y z ≡ F.distance at z + more

module _ (F G : Trees) (M : Metric F) (a b : ℕ) (B : Bridge F G a b) (x : ℕ) where
  -- A state of x's tree is seen where it is, a state over the pair at a.
  unfoldable pub seen : (y : ℕ) → Reached F a b x y → Seen F G x y
  seen y (inl k) =
      record {
        at = y;
        more = 0;
        mate = k;
        to = λ z h. omega (arith, B.same z y (sym h ∙ k));
        back = λ z h. omega (arith, B.same y z (sym k ∙ h));
      }
  seen y (inr (h, k)) =
      record {
        at = a;
        more = 1 + F.distance b y;
        mate = sym h;
        to = λ z l. omega (arith, B.over z y (h ∙ l) k);
        back = λ z l. omega (arith, B.back y z k (h ∙ l), M.flip b y k);
      }

  -- Two states that are not seen at the same are apart what they are seen apart, and farther by both numbers.
  pub seen_between : (w r : ℕ) (s : Reached F a b x w) (t : Reached F a b x r) → ¬ ((seen w s).at ≡ (seen r t).at)
      → G.distance w r ≡ F.distance (seen w s).at (seen r t).at + (seen w s).more + (seen r t).more
  unfolding seen
  seen_between w r (inl l) t ne = omega (arith, (seen r t).to w l)
  seen_between w r (inr l) (inl m) ne = omega (arith, (seen w (inr l)).back r m)
  seen_between w r (inr l) (inr m) ne = absurd (ne refl)
