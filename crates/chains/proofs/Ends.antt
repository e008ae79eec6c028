-- When a chain ends: with any fuel at all, and at the latest where it meets a chain that does.
use mathlib.Core.Path.{◌≡◌, refl, sym, ap, ◌∙◌}
use mathlib.Core.Logic.{◌⊎◌, inl, inr}
use mathlib.Core.Option.{Option, none, some}
use Prim.Native.Nat.{ℕ, zero, suc, ◌+◌, ◌<◌}
use native.Mathlib.Omega.{arith}
use Rattle.paper.specs.View.{View, chain, chained, longer, steps, and_then}
use Rattle.paper.proofs.Tests.{none≢some}
use Rattle.paper.proofs.Chain.{Inside, steps_add, chain-ends, ends-chain, chain_more}
use Rattle.paper.proofs.Returns.{endless_returns, returns_endless}

module _ (v : View) where
  -- The chain of a state has a state so many steps on, or has ended before.
  pub steps-or-ends : (i s : ℕ) → ((x : ℕ) × (steps v i s ≡ some x)) ⊎ ((l : ℕ) × (chain v i s ≡ some l))
  steps-or-ends zero s = inl (s, refl)
  steps-or-ends (suc i) s = go (v.default s) (steps-or-ends i)
    where
      go : (o : Option ℕ) → ((d : ℕ) → ((x : ℕ) × (steps v i d ≡ some x)) ⊎ ((l : ℕ) × (chain v i d ≡ some l)))
          → ((x : ℕ) × (and_then o (λ d. steps v i d) ≡ some x)) ⊎ ((l : ℕ) × (chained o (λ d. chain v i d) ≡ some l))
      go none ih = inr (0, refl)
      go (some d) ih = further (ih d)
        where
          further : ((x : ℕ) × (steps v i d ≡ some x)) ⊎ ((l : ℕ) × (chain v i d ≡ some l))
              → ((x : ℕ) × (steps v i d ≡ some x)) ⊎ ((l : ℕ) × (longer (chain v i d) ≡ some l))
          further (inl x) = inl x
          further (inr (l, e)) = inr (suc l, ap longer e)

  -- A chain that ends with some fuel ends within as many states as there are.
  pub chain_enough : Inside v → (f s l : ℕ) → s < v.states → chain v f s ≡ some l → chain v v.states s ≡ some l
  chain_enough inside f s l h e = go (chain v v.states s) refl
    where
      go : (o : Option ℕ) → chain v v.states s ≡ o → chain v v.states s ≡ some l
      go none q = absurd (none≢some (chain v f s) l (returns_endless v f s (endless_returns v inside s h q)) e)
      go (some k) q =
          let a : chain v (f + v.states) s ≡ some l = chain_more v f (f + v.states) s l e (omega arith) in
          let b : chain v (f + v.states) s ≡ some k = chain_more v v.states (f + v.states) s k q (omega arith) in
          q ∙ sym b ∙ a

  -- A chain ends where a state on it has a chain that does.
  pub chain-meets : (f i s x l : ℕ) → steps v i s ≡ some x → chain v f x ≡ some l → chain v (suc (i + l)) s ≡ some (i + l)
  chain-meets f i s x l q e =
      let E = chain-ends v f x l e in
      ends-chain v (suc (i + l)) s (i + l) (record { last = E.last; reached = steps_add v i l s x q ∙ E.reached; root = E.root }) (omega arith)
