-- The largest hops of all states and the classes so far, above a base: nothing smaller bounds them.
use mathlib.Core.Path.{◌≡◌, ap}
use Prim.Native.Nat.{ℕ, ◌+◌, ◌-◌, ◌≤◌, ◌<◌, max}
use native.Mathlib.Decide.{dec_lt}
use native.Mathlib.Omega.{arith}
use Rattle.paper.specs.View.{View, look, worst_hops}
use Rattle.paper.proofs.Look.{worst_upper, worst_least}
use Rattle.facts.proofs.TableFacts.{Classed}

-- No state costs more hops for a class before `first`, and nothing smaller is so.
pub record Far (v : View) (n k base first most : ℕ) : Type 0 where
  pub least : base ≤ most
  pub upper : (s c : ℕ) → s < n → c < k → c < first → base + (look v s c).hops ≤ most
  pub lowest : (x : ℕ) → base ≤ x → ((s c : ℕ) → s < n → c < k → c < first → base + (look v s c).hops ≤ x) → most ≤ x

module _ {v : View} {n k base : ℕ} where
  -- Before the first class it is the base.
  pub far_none : Far v n k base 0 base
  far_none = record { least = omega arith; upper = λ s c hs hc l. absurd (omega arith); lowest = λ x h u. h }

  -- More classes: the larger of it and of what bounds theirs.
  pub far_more : {first most : ℕ} (next found more : ℕ) → first ≤ next → Far v n k base first most → more ≡ max most found
      → ((s c : ℕ) → s < n → c < k → first ≤ c → c < next → base + (look v s c).hops ≤ found)
      → ((x : ℕ) → base ≤ x → ((s c : ℕ) → s < n → c < k → c < next → base + (look v s c).hops ≤ x) → found ≤ x)
      → Far v n k base next more
  far_more {first} next found more w F e above below =
      record {
        least = omega (arith, F.least);
        upper = λ s c hs hc l. go s c hs hc l (dec_lt c first);
        lowest = λ x h u. omega (arith, F.lowest x h (λ s c hs hc l. u s c hs hc (omega arith)), below x h u);
      }
    where
      go : (s c : ℕ) → s < n → c < k → c < next → Dec (c < first) → base + (look v s c).hops ≤ more
      go s c hs hc l (yes b) = omega (arith, F.upper s c hs hc b)
      go s c hs hc l (no b) = omega (arith, above s c hs hc (omega arith) l)

  -- After the last class it is the worst above the base.
  pub far_worst : {first most : ℕ} → v.states ≡ n → Far v n k base first most → k ≤ first → (class_of : ℕ → ℕ) → Classed 256 k class_of → most ≡ base + worst_hops v class_of
  far_worst {first} {most} counted F all class_of C =
      let up : most ≤ base + worst_hops v class_of =
      F.lowest (base + worst_hops v class_of) (omega arith) (λ s c hs hc l.
      let (x, hx, e) = C.used c hc in
      omega (arith, worst_upper v class_of s x (omega (arith, counted)) hx, ap (λ (c : ℕ). (look v s c).hops) e)) in
      let down : worst_hops v class_of ≤ most - base =
      worst_least v class_of (most - base) (λ s x hs hx. omega (arith, F.upper s (class_of x) (omega (arith, counted)) (C.below x hx) (omega (arith, C.below x hx)))) in
      omega (arith, up, down, F.least)
