-- Where a look-up goes in a sound view.
use mathlib.Core.Path.{◌≡◌, sym, ap, ◌∙◌}
use mathlib.Core.Option.{Option, none, some}
use Prim.Native.Nat.{ℕ, suc, ◌<◌}
use native.Mathlib.Omega.{arith}
use Rattle.paper.specs.Below.{or}
use Rattle.paper.specs.View.{View, Found, here, stored, look}
use Rattle.paper.proofs.Chain.{steps_inside, chain_short}
use Rattle.paper.proofs.Look.{serves_own, serves_on, look_serves, serves_look, serves_find}
use Rattle.paper.proofs.Entries.{stored_entry, entry_stored}
use Rattle.facts.proofs.ViewFacts.{Sound}
use Rattle.facts.proofs.Finds.{found}

-- The next state of what was found, 0 where nothing was.
abbrev pub target_of : Option Found → ℕ
target_of o = (or o (here 0 0)).target

module _ (v : View) where
  -- Where a state goes on a class.
  abbrev pub goes : ℕ → ℕ → ℕ
  goes s c = (look v s c).target

module _ (v : View) (A : Sound v) where
  -- A state goes to what it stores.
  pub goes_own : (s c x : ℕ) → s < v.states → stored v s c ≡ some x → goes v s c ≡ x
  goes_own s c x hs q = ap target_of (serves_look v c v.states s s 0 x (serves_own v c s x q) (omega arith))

  -- It goes from the class of an entry to the entry's next state.
  pub entry_goes : (s j : ℕ) → s < v.states → j < v.count s → goes v s (v.entry_class s j) ≡ v.entry_next s j
  entry_goes s j hs hj = goes_own s (v.entry_class s j) (v.entry_next s j) hs (entry_stored v s (λ j. A.rises s j hs) j hj)

  -- Where it stores nothing it goes where its default goes.
  pub goes_on : (s c d : ℕ) → s < v.states → c < v.classes → stored v s c ≡ none → v.default s ≡ some d → goes v s c ≡ goes v d c
  goes_on s c d hs hc q f =
      let (r, e) = found v A d c (A.inside s d hs f) hc in
      let (l, el) = A.ends s hs in
      let S = serves_on v c s d r.server r.hops r.target q f (look_serves v c v.states d r e) in
      ap target_of (serves_find v c s l r.server (suc r.hops) r.target el (chain_short v v.states s l el) S) ∙ sym (ap target_of e)

  -- It goes to a state below n.
  pub goes_below : (s c : ℕ) → s < v.states → c < v.classes → goes v s c < v.states
  goes_below s c hs hc =
      let (r, e) = found v A s c hs hc in
      let S = look_serves v c v.states s r e in
      let (j, hj, _, en) = stored_entry v r.server c r.target S.stores in
      omega (arith, ap target_of e, A.next_below r.server j (steps_inside v A.inside r.hops s r.server hs S.reached) hj)
