-- The look-up on its way along the defaults of a sound view, whatever its parts are read from.
use mathlib.Core.Path.{◌≡◌, sym, ap, ◌∙◌}
use mathlib.Core.Logic.{◌⊎◌, inl, inr}
use mathlib.Core.Option.{Option, none, some}
use Prim.Native.Nat.{ℕ, suc, ◌+◌, ◌≤◌, ◌<◌}
use native.Mathlib.Nat.{zero-add, add-zero}
use native.Mathlib.Omega.{arith}
use Rattle.paper.specs.Below.{or}
use Rattle.paper.specs.Sentences.{Serves}
use Rattle.paper.specs.View.{View, Found, here, stored, chain, look}
use Rattle.paper.proofs.Tests.{none≢some}
use Rattle.paper.proofs.Chain.{chain_short, chain-default}
use Rattle.paper.proofs.Look.{serves_own, serves_on, serves_find}
use Rattle.facts.proofs.ViewFacts.{Sound}
use Rattle.facts.proofs.Finds.{root_stores}
use Rattle.image.specs.Forms.{default_of, step_of}
use Rattle.image.specs.Forms.{Fallback}
use Rattle.std.specs.Prelude.{None, Some, unwrap_or}
use Rattle.image.specs.Forms.{Step}
use Rattle.image.proofs.Cases.{step_stored, step_nothing}

-- The steps that a state's chain has left, 0 where it has no end.
abbrev pub steps_left : View → ℕ → ℕ
steps_left v s = or (chain v v.states s) 0

-- The look-up from `state` has come to s after so many hops: what the chain of s gives, the chain of `state` gives so many hops further.
pub record Way (v : View) (state class s hops : ℕ) : Type 0 where
  pub inside : s < v.states
  pub ends : chain v v.states s ≡ some (steps_left v s)
  pub few : hops + steps_left v s < 512
  pub leads : (r h t : ℕ) → Serves v s class r h t → Serves v state class r (hops + h) t

-- It goes on from s at d, one hop further, and a step less is left.
pub record Onward (v : View) (state class s hops d : ℕ) : Type 0 where
  pub way : Way v state class d (hops + 1)
  pub nearer : steps_left v d + 1 ≡ steps_left v s

-- A chain that ends after l steps has l left.
chain_left : (v : View) (s l : ℕ) → chain v v.states s ≡ some l → steps_left v s ≡ l
chain_left v s l e = ap (λ (o : Option ℕ). or o 0) e

module _ (v : View) (A : Sound v) (few_states : v.states ≤ 512) where
  -- Every chain ends after the steps that it has left.
  ends-left : (s : ℕ) → s < v.states → chain v v.states s ≡ some (steps_left v s)
  ends-left s h = let (l, e) = A.ends s h in e ∙ ap {B = Option ℕ} some (sym (chain_left v s l e))

  module _ (state class : ℕ) (hs : state < v.states) (hc : class < v.classes) where
    -- It starts at the state itself.
    pub way_start : Way v state class state 0
    way_start =
        let e = ends-left state hs in
        record {
          inside = hs;
          ends = e;
          few = omega (arith, chain_short v v.states state (steps_left v state) e);
          leads = λ r h t S. rw (zero-add h) S;
        }

    module _ (s hops : ℕ) (W : Way v state class s hops) where
      -- A target stored here is what it finds, after these hops.
      way_found : (t : ℕ) → stored v s class ≡ some t → look v state class ≡ record { target = t; hops = hops; server = s }
      way_found t e =
          let own : Serves v state class s hops t = rw add-zero at (W.leads s 0 t (serves_own v class s t e)) in
          let q = ends-left state hs in
          ap (λ (o : Option Found). or o (here 0 0))
          (serves_find v class state (steps_left v state) s hops t q (chain_short v v.states state (steps_left v state) q) own)

      -- Where nothing is stored here it goes on at the default.
      way_on : stored v s class ≡ none → (d : ℕ) → v.default s ≡ some d → Onward v state class s hops d
      way_on e d r =
          let (k, w, l) = chain-default v v.states s d (steps_left v s) W.ends r in
          let below : d < v.states = A.inside s d W.inside r in
          let left : steps_left v d ≡ k = chain_left v d k w in
          record {
            way = record {
              inside = below;
              ends = ends-left d below;
              few = omega (arith, W.few);
              leads = λ x h t S.
                  let further : hops + suc h ≡ hops + 1 + h = omega arith in
                  rw (← further) (W.leads x (suc h) t (serves_on v class s d x h t e r S));
            };
            nearer = omega arith;
          }

      -- None is stored at a state with a default only: a root stores every class.
      no_root : stored v s class ≡ none → ¬ (v.default s ≡ none)
      no_root e r = let (t, w) = root_stores v A s class W.inside hc r in none≢some (stored v s class) t e w

      module _ (step : Step) (step_is : step ≡ step_of (stored v s class)) where
        -- A step over the state's entries that answers a target has found it.
        pub way_answered : (t : ℕ) → step ≡ Some t → (t ≡ (look v state class).target) × (hops ≡ (look v state class).hops) × (s ≡ (look v state class).server)
        way_answered t q =
            let found = way_found t (step_stored (stored v s class) step t step_is q) in
            (sym (ap (λ (f : Found). f.target) found), sym (ap (λ (f : Found). f.hops) found), sym (ap (λ (f : Found). f.server) found))

        -- One that answers nothing sends it on to where the state falls, and that is no root.
        pub way_sent : step ≡ None → (f : Fallback) → v.default s ≡ default_of f → (d other : ℕ) → d ≡ unwrap_or f other → Onward v state class s hops d
        way_sent q None e d other h = absurd (no_root (step_nothing (stored v s class) step step_is q) e)
        way_sent q (Some x) e d other h = way_on (step_nothing (stored v s class) step step_is q) d (e ∙ ap {B = Option ℕ} some (sym h))
