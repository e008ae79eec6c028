-- Whether some chain has no end, told from the places: where each state has one all chains end.
use mathlib.Core.Path.{◌≡◌, ap}
use mathlib.Core.Bool.{true, false, not}
use mathlib.Core.Option.{Option, none}
use mathlib.Core.List.{List}
use Prim.Native.Nat.{ℕ, ◌+◌, ◌≤◌, ◌<◌}
use native.Mathlib.Decide.{ℕ_discrete}
use native.Mathlib.Omega.{arith}
use Rattle.paper.specs.Below.{any, given}
use Rattle.paper.specs.View.{View, chain, endless}
use Rattle.paper.proofs.Below.{any_found, any_none}
use Rattle.paper.proofs.Chain.{Inside}
use Rattle.chains.specs.Places.{Unplaced, Laid, SetDown}
use Rattle.chains.proofs.Places.{placed-ends}

-- A chain without end is found.
pub endless-found : (v : View) (s : ℕ) → s < v.states → chain v v.states s ≡ none → any v.states (endless v) ≡ true
endless-found v s h e = any_found v.states s (endless v) h (ap (λ (o : Option ℕ). not (given o)) e)

-- One more state has a place, and those before keep theirs.
pub placed_more : {n : ℕ} {def order old place : List ℕ} {filled s : ℕ} → SetDown n def order old place filled s → ((q : ℕ) → q < s → ¬ Unplaced old q)
    → (q : ℕ) → q < s + 1 → ¬ Unplaced place q
placed_more {place = place} {s = s} S before q h = go (ℕ_discrete q s)
  where
    go : Dec (q ≡ s) → ¬ Unplaced place q
    go (yes e) = rw e S.placed
    go (no e) = S.kept q (before q (omega arith))

-- Where all states have a place no chain is without end.
pub placed-endless : {v : View} {order place : List ℕ} {filled : ℕ} → Laid v order place filled → v.states ≤ 512 → Inside v
    → ((s : ℕ) → s < v.states → ¬ Unplaced place s) → any v.states (endless v) ≡ false
placed-endless {v} L few inside all =
    any_none v.states (endless v) (λ s h. let (l, e) = placed-ends L few inside s h (all s h) in ap (λ (o : Option ℕ). not (given o)) e)
