-- The states that a climb has passed: their chain ends, no state is passed twice, and there is room for them behind those that stand already.
use mathlib.Core.Path.{◌≡◌, sym, ap, ◌∙◌}
use mathlib.Core.Bool.{cond}
use mathlib.Core.Logic.{◌⊎◌, inl, inr}
use mathlib.Core.Option.{Option, none, some}
use mathlib.Core.List.{List}
use Prim.Native.Nat.{ℕ, suc, ◌+◌, ◌-◌, ◌≤◌, ◌<◌}
use native.Mathlib.Decide.{dec_lt}
use native.Mathlib.Omega.{arith}
use lib.Dec.{ltb}
use lib.ListN.{get_or}
use borrow.Author.Tests.{lt-ltb, le-ltb}
use Rattle.paper.specs.View.{View, chain, steps, and_then}
use Rattle.paper.proofs.Counts.{pigeonhole}
use Rattle.paper.proofs.Chain.{Inside, some_same, steps_add, steps_inside, chain_on}
use Rattle.chains.specs.Orders.{defaults_view}
use Rattle.chains.specs.Places.{along, Ready}
use Rattle.chains.proofs.Defaults.{from_which, range_inside}
use Rattle.chains.proofs.Ends.{steps-or-ends, chain_enough, chain-meets}
use Rattle.chains.proofs.Places.{held_apart, held_placed, placed-ends}

-- One step is the default.
step_default : (o : Option ℕ) {d : ℕ} → and_then o (λ x. some x) ≡ some d → o ≡ some d
step_default none e = e
step_default (some x) e = e

module _ {n : ℕ} {def order place : List ℕ} {filled s count : ℕ} (R : Ready n def order place filled s count) where
  -- The defaults as a view.
  abbrev v : View
  v = defaults_view n def

  -- They stay among its states.
  inside : Inside v
  inside = range_inside n def R.range

  -- A chain that is climbed ends.
  climbed_ends : (l : ℕ) × (chain v n s ≡ some l)
  climbed_ends = go (steps-or-ends v count s)
    where
      go : ((x : ℕ) × (steps v count s ≡ some x)) ⊎ ((l : ℕ) × (chain v count s ≡ some l)) → (l : ℕ) × (chain v n s ≡ some l)
      go (inl (x, q)) =
          let (l, e) = placed-ends R.laid R.few inside x (steps_inside v inside count s x R.below q) (R.climbed.stopped x q) in
          (count + l, chain_enough v inside (suc (count + l)) s (count + l) R.below (chain-meets v n count s x l q e))
      go (inr (l, e)) = (l, chain_enough v inside count s l R.below e)

  -- The states passed are below n.
  pub along_below : (i : ℕ) → i < count → along v s i < n
  along_below i h = steps_inside v inside i s (along v s i) R.below (R.climbed.passed i h).0

  -- Each state passed but the last falls to the next.
  pub along-next : (i : ℕ) → i + 1 < count → get_or def (along v s i) 0 ≡ along v s (i + 1)
  along-next i h =
      let e : steps v 1 (along v s i) ≡ some (along v s (i + 1)) =
      sym (steps_add v i 1 s (along v s i) (R.climbed.passed i (omega arith)).0) ∙ (R.climbed.passed (i + 1) h).0 in
      (from_which (get_or def (along v s i) 0) (along v s (i + 1)) (step_default (v.default (along v s i)) e)).0

  -- No state is passed twice.
  pub along_apart : (i j : ℕ) → i < count → j < count → along v s i ≡ along v s j → i ≡ j
  along_apart i j hi hj e =
      let (l, w) = climbed_ends in
      let (a, ea, la) = chain_on v n s i (along v s i) l w (R.climbed.passed i hi).0 in
      let (b, eb, lb) = chain_on v n s j (along v s j) l w (R.climbed.passed j hj).0 in
      let q : a ≡ b = some_same (sym ea ∙ ap (λ (x : ℕ). chain v n x) e ∙ eb) in
      omega arith

  -- A state that stands already is not passed.
  held_not_along : (i j : ℕ) → i < filled → j < count → ¬ (get_or order i 0 ≡ along v s j)
  held_not_along i j hi hj e = held_placed R.laid R.few i hi (ap (λ (x : ℕ). get_or place x 0) e ∙ (R.climbed.passed j hj).1)

  -- Those that stand and those that are passed, in one row.
  row : ℕ → ℕ
  row i = cond (ltb i filled) (get_or order i 0) (along v s (i - filled))

  -- First those that stand.
  row_held : (i : ℕ) → i < filled → row i ≡ get_or order i 0
  unfolding row
  row_held i h = rw (lt-ltb i filled h)

  -- Then those that are passed.
  row_passed : (i : ℕ) → filled ≤ i → row i ≡ along v s (i - filled)
  unfolding row
  row_passed i h = rw (le-ltb i filled h)

  -- There is room for the states passed behind those that stand.
  pub climbed_room : filled + count ≤ n
  climbed_room = pigeonhole (filled + count) n row (λ i h. into i h (dec_lt i filled)) (λ i j hi hj. apart i j hi hj (dec_lt i filled) (dec_lt j filled))
    where
      into : (i : ℕ) → i < filled + count → Dec (i < filled) → row i < n
      into i h (yes l) = rw (row_held i l) (R.laid.below i l)
      into i h (no l) = rw (row_passed i (omega arith)) (along_below (i - filled) (omega arith))

      apart : (i j : ℕ) → i < filled + count → j < filled + count → Dec (i < filled) → Dec (j < filled) → row i ≡ row j → i ≡ j
      apart i j hi hj (yes a) (yes b) e = held_apart R.laid i j a b (rw (row_held i a, row_held j b) at e)
      apart i j hi hj (yes a) (no b) e = absurd (held_not_along i (j - filled) a (omega arith) (rw (row_held i a, row_passed j (omega arith)) at e))
      apart i j hi hj (no a) (yes b) e = absurd (held_not_along j (i - filled) b (omega arith) (sym (rw (row_passed i (omega arith), row_held j b) at e)))
      apart i j hi hj (no a) (no b) e =
          let w = along_apart (i - filled) (j - filled) (omega arith) (omega arith) (rw (row_passed i (omega arith), row_passed j (omega arith)) at e) in
          omega arith
