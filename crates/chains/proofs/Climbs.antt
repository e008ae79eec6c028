-- The climb along a chain to the first state that has a place or no default.
use mathlib.Core.Path.{◌≡◌, refl, sym, ◌∙◌}
use mathlib.Core.Option.{Option, none, some}
use mathlib.Core.List.{List}
use Prim.Native.Nat.{ℕ, ◌+◌, ◌≤◌, ◌<◌}
use native.Mathlib.Nat.{not-suc-le-zero}
use native.Mathlib.Decide.{ℕ_discrete}
use native.Mathlib.Omega.{arith}
use Rattle.paper.specs.View.{View, chain, steps}
use Rattle.paper.proofs.Tests.{none≢some}
use Rattle.paper.proofs.Chain.{some_same, steps_next, steps_add, chain_on, chain_short}
use Rattle.chains.specs.Places.{Unplaced, along, Climbed}

-- The climb from a state has passed so many states without a place and stands at the next.
pub record Climbing (v : View) (place : List ℕ) (s count cur : ℕ) : Type 0 where
  pub here : steps v count s ≡ some cur
  pub passed : (i : ℕ) → i < count → (steps v i s ≡ some (along v s i)) × Unplaced place (along v s i)

-- It begins at the state itself.
pub climb_starts : (v : View) (place : List ℕ) (s count : ℕ) → count ≡ 0 → Climbing v place s count s
climb_starts v place s count e = rw e (record { here = refl; passed = λ i h. absurd (not-suc-le-zero h) })

module _ {v : View} {place : List ℕ} {s count cur : ℕ} (C : Climbing v place s count cur) where
  -- A state without a place is passed.
  passed_more : Unplaced place cur → (i : ℕ) → i < count + 1 → (steps v i s ≡ some (along v s i)) × Unplaced place (along v s i)
  passed_more u i h = go (ℕ_discrete i count)
    where
      go : Dec (i ≡ count) → (steps v i s ≡ some (along v s i)) × Unplaced place (along v s i)
      go (yes q) = rw (q, C.here) (refl, u)
      go (no q) = C.passed i (omega arith)

  -- One step beyond it is its default.
  step_beyond : steps v (count + 1) s ≡ steps v 1 cur
  step_beyond = steps_add v count 1 s cur C.here

  -- The climb goes on to the default.
  pub climb_on : (next d : ℕ) → next ≡ count + 1 → Unplaced place cur → v.default cur ≡ some d → Climbing v place s next d
  climb_on next d q u e = rw q (record { here = step_beyond ∙ steps_next v 0 cur d e; passed = passed_more u })

  -- It stops at a state that has a place.
  pub climb_meets : ¬ Unplaced place cur → Climbed v place s count
  climb_meets p = record { passed = C.passed; stopped = λ x e. rw (some_same (sym C.here ∙ e)) at p }

  -- It stops behind a state without a default.
  pub climb_ends : (next : ℕ) → next ≡ count + 1 → Unplaced place cur → v.default cur ≡ none → Climbed v place s next
  climb_ends next q u e =
      rw q (record { passed = passed_more u; stopped = λ x w. absurd (none≢some (steps v 1 cur) x (rw e) (sym step_beyond ∙ w)) })

  -- A climb over as many states as there are has no end.
  pub climb_endless : v.states ≤ count → chain v v.states s ≡ none
  climb_endless h = go (chain v v.states s) refl
    where
      go : (o : Option ℕ) → chain v v.states s ≡ o → chain v v.states s ≡ none
      go none e = e
      go (some l) e =
          let (k, _, q) = chain_on v v.states s count cur l e C.here in
          absurd (omega (arith, chain_short v v.states s l e))
