-- States set down so far, each after its default: no state stands twice, those that have a place have chains that end, and when all have one the order is done.
use mathlib.Core.Path.{◌≡◌, refl, sym, ap, ◌∙◌}
use mathlib.Core.Option.{Option, none, some}
use mathlib.Core.List.{List}
use Prim.Native.Nat.{ℕ, zero, suc, ◌≤◌, ◌<◌}
use native.Mathlib.Nat.{not-suc-le-zero}
use native.Mathlib.Omega.{arith}
use lib.ListN.{length, get_or, replicate, length-replicate, get_or-replicate}
use Rattle.paper.specs.View.{View, chain, chained, longer}
use Rattle.paper.proofs.Counts.{pigeonhole}
use Rattle.paper.proofs.Chain.{Inside}
use Rattle.chains.specs.Orders.{defaults_view, ParentFirst}
use Rattle.chains.specs.Places.{Unplaced, Laid}

-- At first no state has a place.
pub laid_none : (v : View) (order : List ℕ) → v.states ≤ 512 → length order ≡ 512 → Laid v order (replicate 512 65535) 0
laid_none v order few long =
    record {
      order_long = long;
      place_long = length-replicate {A = ℕ} 512 65535;
      below = λ i h. absurd (not-suc-le-zero h);
      says = λ i h. absurd (not-suc-le-zero h);
      stands = λ s h p. absurd (p (get_or-replicate 512 s 65535 0 (omega arith)));
      after = λ i d h. absurd (not-suc-le-zero h);
    }

module _ {v : View} {order place : List ℕ} {filled : ℕ} (L : Laid v order place filled) where
  -- No state stands twice.
  pub held_apart : (i j : ℕ) → i < filled → j < filled → get_or order i 0 ≡ get_or order j 0 → i ≡ j
  held_apart i j hi hj e = sym (L.says i hi) ∙ ap (λ (s : ℕ). get_or place s 0) e ∙ L.says j hj

  -- So no more states stand there than there are.
  laid_within : filled ≤ v.states
  laid_within = pigeonhole filled v.states (λ i. get_or order i 0) L.below held_apart

  -- Where all states have a place, as many stand there as there are.
  laid_full : ((s : ℕ) → s < v.states → ¬ Unplaced place s) → filled ≡ v.states
  laid_full all =
      let h : v.states ≤ filled =
      pigeonhole v.states filled (λ s. get_or place s 0) (λ s hs. (L.stands s hs (all s hs)).0)
      (λ s q hs hq e. sym (L.stands s hs (all s hs)).1 ∙ ap (λ (i : ℕ). get_or order i 0) e ∙ (L.stands q hq (all q hq)).1) in
      omega (arith, laid_within)

  module _ (few : v.states ≤ 512) where
    -- A place before one that is filled is a place.
    pub before-placed : (i s : ℕ) → i ≤ filled → get_or place s 0 < i → ¬ Unplaced place s
    before-placed i s h l u = omega (arith, laid_within)

    -- A state that is held has a place.
    pub held_placed : (i : ℕ) → i < filled → ¬ Unplaced place (get_or order i 0)
    held_placed i h = before-placed filled (get_or order i 0) (omega arith) (omega (arith, L.says i h))

    -- The default of a state that has a place has a place before it.
    default-before : (s d : ℕ) → s < v.states → ¬ Unplaced place s → v.default s ≡ some d → get_or place d 0 < get_or place s 0
    default-before s d hs p e = let (h, q) = L.stands s hs p in L.after (get_or place s 0) d h (ap v.default q ∙ e)

    -- The chain of a state that has a place ends.
    placed-falls : Inside v → (left s : ℕ) → s < v.states → ¬ Unplaced place s → get_or place s 0 < left → (l : ℕ) × (chain v left s ≡ some l)
    placed-falls inside zero s hs p h = absurd (not-suc-le-zero h)
    placed-falls inside (suc left) s hs p h = go (v.default s) refl (placed-falls inside left)
      where
        go : (o : Option ℕ) → v.default s ≡ o → ((d : ℕ) → d < v.states → ¬ Unplaced place d → get_or place d 0 < left → (l : ℕ) × (chain v left d ≡ some l))
            → (l : ℕ) × (chained o (λ d. chain v left d) ≡ some l)
        go none q ih = (0, refl)
        go (some d) q ih =
            let w = default-before s d hs p q in
            let (k, e) = ih d (inside s d hs q) (before-placed (get_or place s 0) d (omega (arith, (L.stands s hs p).0)) w) (omega arith) in
            (suc k, ap longer e)

    -- Within as many states as there are.
    pub placed-ends : Inside v → (s : ℕ) → s < v.states → ¬ Unplaced place s → (l : ℕ) × (chain v v.states s ≡ some l)
    placed-ends inside s hs p = placed-falls inside v.states s hs p (omega (arith, (L.stands s hs p).0, laid_within))

-- Where all states have a place the order is done.
pub laid_order : (n : ℕ) (def : List ℕ) {order place : List ℕ} {filled : ℕ} → Laid (defaults_view n def) order place filled → n ≤ 512 → Inside (defaults_view n def)
    → ((s : ℕ) → s < n → ¬ Unplaced place s) → ParentFirst n def order
laid_order n def {order} {place} {filled} L few inside all =
    let full : filled ≡ n = laid_full L all in
    record {
      below = λ i h. L.below i (omega arith);
      stands = λ s h. let (w, q) = L.stands s h (all s h) in (get_or place s 0, omega arith, q);
      once = λ i j h l e. sym (L.says i (omega arith)) ∙ ap (λ (x : ℕ). get_or place x 0) e ∙ L.says j (omega arith);
      after = λ i d h e.
          let w : get_or place d 0 < i = L.after i d (omega arith) e in
          let hd : d < n = inside (get_or order i 0) d (L.below i (omega arith)) e in
          (get_or place d 0, w, (L.stands d hd (all d hd)).1);
    }
