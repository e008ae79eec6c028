-- A chain of defaults has no end just where it returns to a state.
use mathlib.Core.Path.{◌≡◌, refl, sym, ap, ◌∙◌}
use mathlib.Core.Bool.{true, not, true≢false}
use mathlib.Core.Option.{Option, none, some}
use Prim.Native.Nat.{ℕ, zero, suc, ◌≤◌, ◌<◌}
use native.Mathlib.Nat.{not-suc-le-zero}
use native.Mathlib.Omega.{arith}
use Rattle.paper.specs.Below.{or, given}
use Rattle.paper.specs.View.{View, chain, chained, longer, steps, and_then, endless}
use Rattle.paper.specs.Sentences.{Returns}
use Rattle.paper.proofs.Tests.{Holds, none≢some}
use Rattle.paper.proofs.Counts.{Twice, collision}
use Rattle.paper.proofs.Chain.{Inside, some_same, steps_inside, chain_on}

module _ (v : View) where
  longer_none : (o : Option ℕ) → longer o ≡ none → o ≡ none
  longer_none none e = refl
  longer_none (some l) e = absurd (none≢some (some (suc l)) (suc l) e refl)

  -- A chain that has not ended when the fuel has has a state at each step up to it.
  going : (left s i : ℕ) → chain v left s ≡ none → i ≤ left → (x : ℕ) × (steps v i s ≡ some x)
  going left s zero e h = (s, refl)
  going zero s (suc i) e h = absurd (not-suc-le-zero h)
  going (suc left) s (suc i) e h = go (v.default s) e (λ d e'. going left d i e' (omega arith))
    where
      go : (o : Option ℕ) → chained o (λ d. chain v left d) ≡ none → ((d : ℕ) → chain v left d ≡ none → (x : ℕ) × (steps v i d ≡ some x))
          → (x : ℕ) × (and_then o (λ d. steps v i d) ≡ some x)
      go none e ih = absurd (none≢some (some 0) 0 e refl)
      go (some d) e ih = ih d (longer_none (chain v left d) e)

  -- It passes n + 1 states below n, so one of them twice.
  pub endless_returns : Inside v → (s : ℕ) → s < v.states → chain v v.states s ≡ none → Returns v s
  endless_returns inside s h e = found (collision (suc v.states) v.states at (omega arith) (λ i hi. steps_inside v inside i s (at i) h (here i (omega arith))))
    where
      at : ℕ → ℕ
      at i = or (steps v i s) 0

      here : (i : ℕ) → i ≤ v.states → steps v i s ≡ some (at i)
      here i hi = let (x, q) = going v.states s i e hi in rw q

      found : Twice (suc v.states) at → Returns v s
      found (i, j, h, hj, q) = (i, j, at i, h, here i (omega arith), here j (omega arith) ∙ ap {B = Option ℕ} some (sym q))

  -- A chain that returns has no end, whatever the fuel.
  pub returns_endless : (left s : ℕ) → Returns v s → chain v left s ≡ none
  returns_endless left s (i, j, x, h, p, q) = go (chain v left s) refl
    where
      go : (o : Option ℕ) → chain v left s ≡ o → chain v left s ≡ none
      go none e = e
      go (some l) e =
          let (a, ea, la) = chain_on v left s i x l e p in
          let (b, eb, lb) = chain_on v left s j x l e q in
          let w : a ≡ b = some_same (sym ea ∙ eb) in
          absurd (omega arith)

  -- So the test of ground 11 says just that.
  pub holds_returns : Inside v → (s : ℕ) → s < v.states → Holds (endless v s) (Returns v s)
  holds_returns inside s h = (λ e. endless_returns inside s h (end (chain v v.states s) e), λ r. ap (λ (o : Option ℕ). not (given o)) (returns_endless v.states s r))
    where
      end : (o : Option ℕ) → not (given o) ≡ true → o ≡ none
      end none e = refl
      end (some l) e = absurd (true≢false (sym e))
