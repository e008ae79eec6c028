-- The worst class by class: the largest hops over all states and all classes.
use mathlib.Core.Path.{◌≡◌, ap}
use Prim.Native.Nat.{ℕ, ◌≤◌}
use native.Mathlib.Omega.{arith}
use Rattle.paper.specs.Below.{largest}
use Rattle.paper.specs.View.{View, look, worst_hops}
use Rattle.paper.proofs.Below.{largest_upper, largest_least}
use Rattle.paper.proofs.Look.{worst_upper, worst_least}
use Rattle.facts.proofs.TableFacts.{Classed}

-- The largest hops of the first n states for a class.
abbrev pub farthest : View → ℕ → ℕ → ℕ
farthest v n c = largest n (λ s. (look v s c).hops)

-- Over all classes it is the worst.
pub worst-classes : (v : View) (n k : ℕ) (class_of : ℕ → ℕ) → v.states ≡ n → Classed 256 k class_of → largest k (farthest v n) ≡ worst_hops v class_of
worst-classes v n k class_of counted C = omega (arith, below, above)
  where
    below : largest k (farthest v n) ≤ worst_hops v class_of
    below =
        largest_least k (worst_hops v class_of) (farthest v n)
        (λ c hc. largest_least n (worst_hops v class_of) (λ s. (look v s c).hops)
        (λ s hs.
        let (x, hx, e) = C.used c hc in
        omega (arith, worst_upper v class_of s x (omega arith) hx, ap (λ (c : ℕ). (look v s c).hops) e)))

    above : worst_hops v class_of ≤ largest k (farthest v n)
    above =
        worst_least v class_of (largest k (farthest v n))
        (λ s x hs hx. omega (arith, largest_upper n s (λ s. (look v s (class_of x)).hops) (omega arith), largest_upper k (class_of x) (farthest v n) (C.below x hx)))
