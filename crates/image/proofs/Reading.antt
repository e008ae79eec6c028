-- A part of some bytes that reads as the entries of a state of a view, wherever it was cut: it stores what the state stores, and where the view is sound its classes rise and are below k.
use mathlib.Core.Path.{◌≡◌, ap, ap₂, ◌∙◌}
use mathlib.Core.List.{List}
use mathlib.Core.Option.{Option}
use Prim.Native.Nat.{ℕ, suc, ◌+◌, ◌*◌, ◌/◌, ◌<◌}
use native.Mathlib.Omega.{arith}
use lib.Dec.{eqb}
use lib.ListN.{length}
use Rattle.paper.specs.Below.{when}
use Rattle.paper.specs.Words.{number16}
use Rattle.paper.specs.View.{View, stored}
use Rattle.paper.proofs.Below.{first_of_same}
use Rattle.facts.proofs.ViewFacts.{Sound}
use Rattle.image.specs.Forms.{step_of, stored_in_of}
use Rattle.image.specs.Laid.{Row}
use Rattle.image.specs.Forms.{Step}

-- The part has four bytes for each entry of the state, its class and its next state.
pub record Reading (v : View) (s : ℕ) (part : List ℕ) : Type 0 where
  pub sized : length part ≡ 4 * v.count s
  pub classes_are : (j : ℕ) → j < v.count s → number16 part (4 * j) ≡ v.entry_class s j
  pub nexts_are : (j : ℕ) → j < v.count s → number16 part (4 * j + 2) ≡ v.entry_next s j

module _ {v : View} {s : ℕ} {part : List ℕ} (R : Reading v s part) where
  -- The bytes tell how many entries there are.
  count_is : length part / 4 ≡ v.count s
  count_is = omega (arith, R.sized)

  -- The part stores what the state stores.
  pub reading_stored : (c : ℕ) → stored_in_of part c ≡ stored v s c
  unfolding stored_in_of stored
  reading_stored c =
      let next_for : ℕ → Option ℕ = λ j. when (eqb (number16 part (4 * j)) c) (number16 part (4 * j + 2)) in
      rw count_is
      (first_of_same (v.count s) next_for (λ j. when (eqb (v.entry_class s j) c) (v.entry_next s j))
      (λ j h. ap₂ (λ (x y : ℕ). when (eqb x c) y) (R.classes_are j h) (R.nexts_are j h)))

  -- One step over it is the state's.
  pub reading_step : (c : ℕ) (step : Step) → step ≡ step_of (stored_in_of part c) → step ≡ step_of (stored v s c)
  reading_step c step e = e ∙ ap step_of (reading_stored c)

  -- Its classes rise and are below k.
  pub reading_row : Sound v → s < v.states → Row part v.classes
  reading_row A hs =
      record {
        rising = record {
          sized = omega (arith, R.sized);
          rises = λ j h.
              let l : suc j < v.count s = omega (arith, count_is) in
              let l₀ : j < v.count s = omega arith in
              omega (arith, R.classes_are j l₀, R.classes_are (suc j) l, A.rises s j hs l);
        };
        below = λ j h.
            let l : j < v.count s = omega (arith, count_is) in
            omega (arith, R.classes_are j l, A.class_below s j hs l);
      }
