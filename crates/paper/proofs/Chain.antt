-- Chains of defaults: what their lengths mean, that the fuel does not matter, and when there is an end.
use mathlib.Core.Path.{◌≡◌, refl, sym, ap, ◌∙◌}
use mathlib.Core.Option.{Option, none, some}
use Prim.Native.Nat.{ℕ, zero, suc, ◌+◌, ◌≤◌, ◌<◌, zero-le}
use native.Mathlib.Nat.{not-suc-le-zero, zero-add, suc-add}
use native.Mathlib.Omega.{arith}
use Rattle.paper.specs.Below.{or}
use Rattle.paper.specs.View.{View, chain, chained, longer, steps, and_then, depth_of}
use Rattle.paper.specs.Sentences.{Ends}
use Rattle.paper.proofs.Tests.{none≢some}
use Rattle.paper.proofs.Below.{largest_upper, largest_attained}

-- A value that is there is one value.
pub some_same : {a b : ℕ} → ◌≡◌ {A = Option ℕ} (some a) (some b) → a ≡ b
some_same e = ap (λ (o : Option ℕ). or o 0) e

-- A chain that goes on is one step longer than the default's.
pub longer_some : (o : Option ℕ) (l : ℕ) → longer o ≡ some l → (k : ℕ) × (o ≡ some k) × (l ≡ suc k)
longer_some none l e = absurd (none≢some none l refl e)
longer_some (some k) l e = (k, refl, sym (some_same e))

-- The defaults of a view stay among its states.
abbrev pub Inside : View → Type 0
Inside v = (s d : ℕ) → s < v.states → v.default s ≡ some d → d < v.states

module _ (v : View) where
  -- One step along the defaults.
  pub steps_next : (i s d : ℕ) → v.default s ≡ some d → steps v (suc i) s ≡ steps v i d
  steps_next i s d e = rw e

  -- Steps after steps.
  pub steps_add : (i j s x : ℕ) → steps v i s ≡ some x → steps v (i + j) s ≡ steps v j x
  steps_add zero j s x e = rw (zero-add, some_same e)
  steps_add (suc i) j s x e = rw suc-add (go (v.default s) e (λ d. steps_add i j d x))
    where
      go : (o : Option ℕ) → and_then o (λ d. steps v i d) ≡ some x → ((d : ℕ) → steps v i d ≡ some x → steps v (i + j) d ≡ steps v j x)
          → and_then o (λ d. steps v (i + j) d) ≡ steps v j x
      go none e ih = absurd (none≢some none x refl e)
      go (some d) e ih = ih d e

  -- Steps from a state below n stay below n.
  pub steps_inside : Inside v → (i s x : ℕ) → s < v.states → steps v i s ≡ some x → x < v.states
  steps_inside inside zero s x h e = rw (← some_same e) h
  steps_inside inside (suc i) s x h e = go (v.default s) refl e (λ d. steps_inside inside i d x)
    where
      go : (o : Option ℕ) → v.default s ≡ o → and_then o (λ d. steps v i d) ≡ some x → ((d : ℕ) → d < v.states → steps v i d ≡ some x → x < v.states)
          → x < v.states
      go none q e ih = absurd (none≢some none x refl e)
      go (some d) q e ih = ih d (inside s d h q) e

  -- A chain's length is what it says: it ends after so many steps.
  pub chain-ends : (left s l : ℕ) → chain v left s ≡ some l → Ends v s l
  chain-ends zero s l e = absurd (none≢some none l refl e)
  chain-ends (suc left) s l e = go (v.default s) refl e (λ d k. chain-ends left d k)
    where
      go : (o : Option ℕ) → v.default s ≡ o → chained o (λ d. chain v left d) ≡ some l → ((d k : ℕ) → chain v left d ≡ some k → Ends v d k) → Ends v s l
      go none q e ih = rw (← some_same e) (record { last = s; reached = refl; root = q })
      go (some d) q e ih =
          let (k, w, r) = longer_some (chain v left d) l e in
          let E = ih d k w in
          rw r (record { last = E.last; reached = steps_next k s d q ∙ E.reached; root = E.root })

  -- The length is below the fuel.
  pub chain_short : (left s l : ℕ) → chain v left s ≡ some l → l < left
  chain_short zero s l e = absurd (none≢some none l refl e)
  chain_short (suc left) s l e = go (v.default s) e (λ d k. chain_short left d k)
    where
      go : (o : Option ℕ) → chained o (λ d. chain v left d) ≡ some l → ((d k : ℕ) → chain v left d ≡ some k → k < left) → l < suc left
      go none e ih = omega (arith, some_same e)
      go (some d) e ih = let (k, q, r) = longer_some (chain v left d) l e in omega (arith, ih d k q)

  -- A chain that ends after fewer steps than the fuel has that length.
  pub ends-chain : (left s l : ℕ) → Ends v s l → l < left → chain v left s ≡ some l
  ends-chain zero s l E h = absurd (not-suc-le-zero h)
  ends-chain (suc left) s zero E h = rw (ap v.default (some_same E.reached) ∙ E.root)
  ends-chain (suc left) s (suc l) E h = go (v.default s) refl E.reached (λ d. ends-chain left d l)
    where
      go : (o : Option ℕ) → v.default s ≡ o → and_then o (λ d. steps v l d) ≡ some E.last → ((d : ℕ) → Ends v d l → l < left → chain v left d ≡ some l)
          → chained o (λ d. chain v left d) ≡ some (suc l)
      go none q e ih = absurd (none≢some none E.last refl e)
      go (some d) q e ih = ap longer (ih d (record { last = E.last; reached = e; root = E.root }) (omega arith))

  -- More fuel gives the same length, and there is only one.
  pub chain_more : (f g s l : ℕ) → chain v f s ≡ some l → f ≤ g → chain v g s ≡ some l
  chain_more f g s l e h = ends-chain g s l (chain-ends f s l e) (omega (arith, chain_short f s l e))

  -- The chain of a state further on is shorter by the steps.
  pub chain_on : (f s i x l : ℕ) → chain v f s ≡ some l → steps v i s ≡ some x → (k : ℕ) × (chain v f x ≡ some k) × (k + i ≡ l)
  chain_on f s zero x l e q = (l, rw (← some_same q) e, omega arith)
  chain_on zero s (suc i) x l e q = absurd (none≢some none l refl e)
  chain_on (suc f) s (suc i) x l e q = go (v.default s) e q (λ d k. chain_on f d i x k)
    where
      go : (o : Option ℕ) → chained o (λ d. chain v f d) ≡ some l → and_then o (λ d. steps v i d) ≡ some x
          → ((d k : ℕ) → chain v f d ≡ some k → steps v i d ≡ some x → (j : ℕ) × (chain v f x ≡ some j) × (j + i ≡ k))
          → (k : ℕ) × (chain v (suc f) x ≡ some k) × (k + suc i ≡ l)
      go none e q ih = absurd (none≢some none x refl q)
      go (some d) e q ih =
          let (k, h, r) = longer_some (chain v f d) l e in
          let (j, w, t) = ih d k h q in
          (j, chain_more f (suc f) x j w (omega arith), omega arith)

  -- A state that falls to d has a chain one step longer than d's.
  pub chain-default : (f s d l : ℕ) → chain v f s ≡ some l → v.default s ≡ some d → (k : ℕ) × (chain v f d ≡ some k) × (k + 1 ≡ l)
  chain-default f s d l e q = chain_on f s 1 d l e (steps_next 0 s d q)

  -- Where a chain from a state below n ends there is a root below n.
  pub chain-root : Inside v → (left s l : ℕ) → s < v.states → chain v left s ≡ some l → (r : ℕ) × (r < v.states) × (v.default r ≡ none)
  chain-root inside left s l h e =
      let E = chain-ends left s l e in
      (E.last, steps_inside inside l s E.last h E.reached, E.root)

  -- A number that falls along every default by one, and is 0 at a state without one, is the chain's length.
  pub chain_rank : (r : ℕ → ℕ) → Inside v → ((s d : ℕ) → s < v.states → v.default s ≡ some d → r d + 1 ≡ r s) → ((s : ℕ) → s < v.states → v.default s ≡ none → r s ≡ 0)
      → (left s : ℕ) → s < v.states → r s < left → chain v left s ≡ some (r s)
  chain_rank r inside down root zero s h l = absurd (not-suc-le-zero l)
  chain_rank r inside down root (suc left) s h l = go (v.default s) refl (chain_rank r inside down root left)
    where
      go : (o : Option ℕ) → v.default s ≡ o → ((d : ℕ) → d < v.states → r d < left → chain v left d ≡ some (r d)) → chained o (λ d. chain v left d) ≡ some (r s)
      go none q ih = rw (root s h q)
      go (some d) q ih =
          let w : suc (r d) ≡ r s = omega (arith, down s d h q) in
          ap longer (ih d (inside s d h q) (omega arith)) ∙ ap {B = Option ℕ} some w

  -- A number that falls along every default bounds the chain, which so has an end.
  pub chain-falls : (r : ℕ → ℕ) → Inside v → ((s d : ℕ) → s < v.states → v.default s ≡ some d → r d < r s)
      → (left s : ℕ) → s < v.states → r s < left → (l : ℕ) × (chain v left s ≡ some l)
  chain-falls r inside down zero s h l = absurd (not-suc-le-zero l)
  chain-falls r inside down (suc left) s h l = go (v.default s) refl (chain-falls r inside down left)
    where
      go : (o : Option ℕ) → v.default s ≡ o → ((d : ℕ) → d < v.states → r d < left → (l : ℕ) × (chain v left d ≡ some l)) → (l : ℕ) × (chained o (λ d. chain v left d) ≡ some l)
      go none q ih = (0, refl)
      go (some d) q ih = let (k, e) = ih d (inside s d h q) (omega (arith, down s d h q)) in (suc k, ap longer e)

-- Defaults dropped shorten chains: where each state keeps its default or has none.
pub chain_dropped : (v w : View) → ((s d : ℕ) → w.default s ≡ some d → v.default s ≡ some d)
    → (f s l : ℕ) → chain v f s ≡ some l → (k : ℕ) × (chain w f s ≡ some k) × (k ≤ l)
chain_dropped v w kept zero s l e = absurd (none≢some none l refl e)
chain_dropped v w kept (suc f) s l e = go (w.default s) refl (chain_dropped v w kept f)
  where
    go : (o : Option ℕ) → w.default s ≡ o → ((d l : ℕ) → chain v f d ≡ some l → (k : ℕ) × (chain w f d ≡ some k) × (k ≤ l))
        → (k : ℕ) × (chained o (λ d. chain w f d) ≡ some k) × (k ≤ l)
    go none q ih = (0, refl, zero-le)
    go (some d) q ih =
        let (j, h, r) = longer_some (chain v f d) l (rw (kept s d q) at e) in
        let (k, t, m) = ih d j h in
        (suc k, ap longer t, omega arith)

-- The depth is the longest chain: every chain that ends is at most so long, and where all end one is so long.
module _ (v : View) where
  -- No chain that ends is longer.
  pub depth-longest : (s l : ℕ) → s < v.states → chain v v.states s ≡ some l → l ≤ depth_of v
  unfolding depth_of
  depth-longest s l h e = omega (arith, largest_upper v.states s (λ s. or (chain v v.states s) 0) h, ap (λ (o : Option ℕ). or o 0) e)

  -- Where all end, one is so long.
  pub depth_met : 0 < v.states → ((s : ℕ) → s < v.states → (l : ℕ) × (chain v v.states s ≡ some l))
      → (s : ℕ) × (s < v.states) × (chain v v.states s ≡ some (depth_of v))
  unfolding depth_of
  depth_met h ends =
      let (s, hs, q) = largest_attained v.states (λ s. or (chain v v.states s) 0) h in
      let (l, e) = ends s hs in
      (s, hs, e ∙ ap {B = Option ℕ} some (sym (ap (λ (o : Option ℕ). or o 0) e) ∙ q))
