-- Fewer than n bytes reach every state that can be reached: each level up to a state's own has a state that no round before had.
use mathlib.Core.Path.{◌≡◌, refl, sym, ap, ◌∙◌}
use mathlib.Core.List.{List}
use mathlib.Core.Option.{Option, none, some}
use Prim.Native.Nat.{ℕ, zero, suc, ◌+◌, ◌≤◌, ◌<◌}
use native.Mathlib.Decide.{ℕ_discrete, dec_lt}
use native.Mathlib.Omega.{arith}
use lib.Dec.{eqb}
use borrow.Author.Tests.{ne_eqb}
use Rattle.paper.specs.Below.{bit, how_many_of, given}
use Rattle.paper.specs.Table.{states}
use Rattle.paper.proofs.Counts.{bit_le, count_le, count-found, count_two, pick_one}
use Rattle.levels.proofs.Within.{within, within_stays, within_found, within_grows, within_back}

module _ (t : List ℕ) where
  -- How many states are reached within so many bytes.
  abbrev pub reached_in : ℕ → ℕ
  reached_in i = how_many_of (states t) (λ y. given (within t i y))

  -- A state that round l + 1 finds is one more than all found before.
  one_more : (l x : ℕ) → x < states t → within t l x ≡ none → within t (suc l) x ≡ some (suc l) → reached_in l + 1 ≤ reached_in (suc l)
  one_more l x h new e =
      omega (
        arith,
        pick_one (states t) x h,
        count_two (states t) (λ y. given (within t l y)) (λ y. eqb x y) (λ y. given (within t (suc l) y)) (λ y hy. at y hy (ℕ_discrete x y) (within t l y) refl),
      )
    where
      at : (y : ℕ) → y < states t → Dec (x ≡ y) → (o : Option ℕ) → within t l y ≡ o → bit (given (within t l y)) + bit (eqb x y) ≤ bit (given (within t (suc l) y))
      at y hy (yes q) o w = rw (← q, new, e) (omega (arith, bit_le (eqb x x)))
      at y hy (no q) none w = rw (w, ne_eqb x y q) (omega arith)
      at y hy (no q) (some m) w = rw (w, within_stays t l y m hy w, ne_eqb x y q) (omega arith)

  -- Where a state has level l more than l states are reached within l bytes.
  more_reached : (l x : ℕ) → x < states t → within t l x ≡ some l → l < reached_in l
  more_reached zero x h e = count-found (states t) x (λ y. given (within t 0 y)) h (ap given e)
  more_reached (suc l) x h e =
      let (new, (s, hs, q, _)) = within_back t x l h e in
      omega (arith, more_reached l s hs q, one_more l x h new e)

  -- So every level is below n.
  pub within_below : (i x l : ℕ) → x < states t → within t i x ≡ some l → l < states t
  within_below i x l h e = omega (arith, more_reached l x h (within_found t i x l h e).1, count_le (states t) (λ y. given (within t l y)))

  -- A level that any round finds is found within n bytes.
  pub within_all : (i x l : ℕ) → x < states t → within t i x ≡ some l → within t (states t) x ≡ some l
  within_all i x l h e = within_grows t (states t) l x l h (omega (arith, within_below i x l h e)) (within_found t i x l h e).1

  -- Nothing is new after n rounds.
  pub within_rests : (i x : ℕ) → x < states t → states t ≤ i → within t i x ≡ within t (states t) x
  within_rests i x h k = go (within t i x) refl (within t (states t) x) refl
    where
      go : (o : Option ℕ) → within t i x ≡ o → (p : Option ℕ) → within t (states t) x ≡ p → within t i x ≡ within t (states t) x
      go (some l) q p r = q ∙ sym (within_all i x l h q)
      go none q (some l) r = within_grows t i (states t) x l h k r ∙ sym r
      go none q none r = q ∙ sym r

  -- Below the level of a state every level has a state.
  level-each : (l x i : ℕ) → x < states t → within t l x ≡ some l → i ≤ l → (y : ℕ) × (y < states t) × (within t i y ≡ some i)
  level-each zero x i h e k = let z : i ≡ 0 = omega arith in (x, h, rw z e)
  level-each (suc l) x i h e k = go (ℕ_discrete i (suc l)) (level-each l)
    where
      go : Dec (i ≡ suc l) → ((x i : ℕ) → x < states t → within t l x ≡ some l → i ≤ l → (y : ℕ) × (y < states t) × (within t i y ≡ some i))
          → (y : ℕ) × (y < states t) × (within t i y ≡ some i)
      go (yes q) ih = (x, h, rw q e)
      go (no q) ih = let (_, (s, hs, w, _)) = within_back t x l h e in ih s i hs w (omega arith)

  -- Where no state has level i nothing is new after i rounds.
  pub within_last : (i : ℕ) → ((s : ℕ) → s < states t → ¬ (within t i s ≡ some i)) → (j x : ℕ) → x < states t → i ≤ j → within t j x ≡ within t i x
  within_last i gone j x h k = go (within t j x) refl (within t i x) refl
    where
      before : (l : ℕ) → within t j x ≡ some l → Dec (l < i) → within t i x ≡ some l
      before l q (yes b) = within_grows t i l x l h (omega arith) (within_found t j x l h q).1
      before l q (no b) = let (y, hy, w) = level-each l x i h (within_found t j x l h q).1 (omega arith) in absurd (gone y hy w)

      go : (o : Option ℕ) → within t j x ≡ o → (p : Option ℕ) → within t i x ≡ p → within t j x ≡ within t i x
      go (some l) q p r = q ∙ sym (before l q (dec_lt l i))
      go none q (some l) r = within_grows t j i x l h k r ∙ sym r
      go none q none r = q ∙ sym r
