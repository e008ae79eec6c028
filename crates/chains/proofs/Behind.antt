-- When all states of a climb are set down, each of the states that stand comes after its default.
use mathlib.Core.Path.{◌≡◌, refl, sym, ap, ◌∙◌}
use mathlib.Core.Logic.{◌⊎◌, inl, inr}
use mathlib.Core.Option.{Option, some}
use mathlib.Core.List.{List}
use Prim.Native.Nat.{ℕ, zero, suc, ◌+◌, ◌-◌, ◌<◌}
use native.Mathlib.Decide.{ℕ_discrete, dec_lt}
use native.Mathlib.Omega.{arith}
use lib.ListN.{get_or}
use Rattle.paper.specs.Below.{or}
use Rattle.paper.specs.View.{View, steps}
use Rattle.paper.proofs.Chain.{steps_next, steps_add}
use Rattle.chains.specs.Orders.{defaults_view}
use Rattle.chains.specs.Places.{Unplaced, Laid, along, Ready, SetDown}
use Rattle.chains.proofs.Defaults.{range_inside}
use Rattle.chains.proofs.Places.{before-placed, held_placed}
use Rattle.chains.proofs.Room.{along_below, climbed_room}
use Rattle.chains.proofs.Marks.{Marked}

module _ {n : ℕ} {def order₀ place₀ : List ℕ} {filled s count : ℕ} (R : Ready n def order₀ place₀ filled s count)
    {order place : List ℕ} (M : Marked n def order₀ place₀ filled s count order place count) where
  -- The defaults as a view.
  abbrev v : View
  v = defaults_view n def

  -- A state that had a place has it still.
  same_place : (q : ℕ) → ¬ Unplaced place₀ q → get_or place q 0 ≡ get_or place₀ q 0
  same_place q p = go (M.either q)
    where
      go : ((k : ℕ) × (k < count) × (q ≡ along v s k)) ⊎ (get_or place q 0 ≡ get_or place₀ q 0) → get_or place q 0 ≡ get_or place₀ q 0
      go (inl (k, l, e)) = absurd (p (ap (λ (x : ℕ). get_or place₀ x 0) e ∙ (R.climbed.passed k l).1))
      go (inr e) = e

  -- So it keeps one.
  marks_keep : (q : ℕ) → ¬ Unplaced place₀ q → ¬ Unplaced place q
  marks_keep q p u = p (sym (same_place q p) ∙ u)

  -- The state from which the climb began has a place.
  marks_start : ¬ Unplaced place s
  marks_start = go count refl
    where
      go : (m : ℕ) → count ≡ m → ¬ Unplaced place s
      go zero e = marks_keep s (R.climbed.stopped s (ap (λ (i : ℕ). steps v i s) e))
      go (suc m) e = λ u. omega (arith, M.marked 0 (omega arith), R.few, climbed_room R)

  module _ (i : ℕ) (h : i < filled + count) where
    -- The step of the climb whose state stands at a place that the climb filled.
    step : ℕ
    step = filled + count - 1 - i

    -- That state stands there.
    stands_new : ¬ (i < filled) → get_or order i 0 ≡ along v s step
    unfolding step
    stands_new l =
        let e : i ≡ filled + count - 1 - (filled + count - 1 - i) = omega arith in
        ap (λ (m : ℕ). get_or order m 0) e ∙ M.set_down_lem step (omega arith)

    -- A state below n stands at each place.
    new_below : Dec (i < filled) → get_or order i 0 < n
    unfolding step
    new_below (yes l) = rw (M.before i l) (R.laid.below i l)
    new_below (no l) = rw (stands_new l) (along_below R step (omega arith))

    -- The place of the state that stands there says so.
    new_says : Dec (i < filled) → get_or place (get_or order i 0) 0 ≡ i
    unfolding step
    new_says (yes l) = rw (M.before i l) (same_place (get_or order₀ i 0) (held_placed R.laid R.few i l) ∙ R.laid.says i l)
    new_says (no l) =
        let e : filled + count - 1 - step ≡ i = omega arith in
        rw (stands_new l) (M.marked step (omega arith) ∙ e)

    -- The default of a state of the climb is the next, or had a place before.
    new-after : (d : ℕ) → Dec (i < filled) → v.default (get_or order i 0) ≡ some d → get_or place d 0 < i
    unfolding step
    new-after d (yes l) e =
        let w : get_or place₀ d 0 < i = R.laid.after i d l (ap v.default (sym (M.before i l)) ∙ e) in
        rw (same_place d (before-placed R.laid R.few i d (omega arith) w)) w
    new-after d (no l) e = go (ℕ_discrete (step + 1) count)
      where
        next : steps v (step + 1) s ≡ some d
        next =
            steps_add v step 1 s (along v s step) (R.climbed.passed step (omega arith)).0
            ∙ steps_next v 0 (along v s step) d (ap v.default (sym (stands_new l)) ∙ e)

        go : Dec (step + 1 ≡ count) → get_or place d 0 < i
        go (yes q) =
            let p : ¬ Unplaced place₀ d = R.climbed.stopped d (ap (λ (m : ℕ). steps v m s) (sym q) ∙ next) in
            omega (arith, same_place d p, (R.laid.stands d (range_inside n def R.range (get_or order i 0) d (new_below (no l)) e) p).0)
        go (no q) =
            let w : along v s (step + 1) ≡ d = ap (λ (o : Option ℕ). or o 0) next in
            omega (arith, M.marked (step + 1) (omega arith), ap (λ (x : ℕ). get_or place x 0) w)

  -- So the order goes on.
  marks_laid : Laid v order place (filled + count)
  marks_laid =
      record {
        order_long = M.order_long;
        place_long = M.place_long;
        below = λ i h. new_below i h (dec_lt i filled);
        says = λ i h. new_says i h (dec_lt i filled);
        stands = λ q hq p. stands q hq p (M.either q);
        after = λ i d h. new-after i h d (dec_lt i filled);
      }
    where
      stands : (q : ℕ) → q < n → ¬ Unplaced place q → ((k : ℕ) × (k < count) × (q ≡ along v s k)) ⊎ (get_or place q 0 ≡ get_or place₀ q 0)
          → (get_or place q 0 < filled + count) × (get_or order (get_or place q 0) 0 ≡ q)
      stands q hq p (inl (k, l, e)) =
          let w : get_or place q 0 ≡ filled + count - 1 - k = ap (λ (x : ℕ). get_or place x 0) e ∙ M.marked k l in
          (omega arith, ap (λ (i : ℕ). get_or order i 0) w ∙ M.set_down_lem k l ∙ sym e)
      stands q hq p (inr e) =
          let (h, w) = R.laid.stands q hq (λ u. p (e ∙ u)) in
          (omega arith, ap (λ (i : ℕ). get_or order i 0) e ∙ M.before (get_or place₀ q 0) h ∙ w)

  -- The climb is set down.
  pub marks_done : SetDown n def order place₀ place (filled + count) s
  marks_done = record { room = climbed_room R; laid = marks_laid; placed = marks_start; kept = marks_keep }
