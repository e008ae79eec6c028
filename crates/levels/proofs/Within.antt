-- The levels of the states that are reached within so many bytes: a level once found stays, it is the round that found it, and a next state's is at most one more.
use mathlib.Core.Path.{◌≡◌, refl, sym, ap, ◌∙◌}
use mathlib.Core.Bool.{Bool, true, false, ◌&&◌, true≢false}
use mathlib.Core.List.{List}
use mathlib.Core.Option.{Option, none, some}
use Prim.Native.Nat.{ℕ, zero, suc, ◌+◌, ◌≤◌, ◌<◌}
use native.Mathlib.Decide.{dec_lt, ℕ_discrete}
use native.Mathlib.Omega.{arith}
use lib.Dec.{eqb}
use lib.ListN.{get_or}
use borrow.Author.Tests.{eq-eqb}
use Rattle.paper.specs.Below.{any, when, or_else, given}
use Rattle.paper.specs.Table.{states, classes, start, next}
use Rattle.paper.specs.FallBack.{leads_to, levels_within}
use Rattle.paper.proofs.Below.{and_true, any_found, any_some}
use Rattle.paper.proofs.Tests.{none≢some}
use Rattle.paper.proofs.Chain.{some_same}
use Rattle.levels.proofs.Places.{list_at}

-- A given value is one.
pub given_is : (o : Option ℕ) → given o ≡ true → (l : ℕ) × (o ≡ some l)
given_is none e = absurd (true≢false (sym e))
given_is (some l) e = (l, refl)

-- A value that the test lets through passed it.
pub when_is : (b : Bool) (a l : ℕ) → when b a ≡ some l → (b ≡ true) × (a ≡ l)
when_is true a l e = (refl, some_same e)
when_is false a l e = absurd (none≢some none l refl e)

-- The first given of two values is the first, or the second where there is no first.
pub or_else_is : (o p : Option ℕ) (l : ℕ) → or_else o p ≡ some l → ¬ (o ≡ some l) → (o ≡ none) × (p ≡ some l)
or_else_is none p l e n = (refl, e)
or_else_is (some a) p l e n = absurd (n e)

module _ (t : List ℕ) where
  -- The level of a state if it is reached within so many bytes.
  abbrev pub within : ℕ → ℕ → Option ℕ
  within i x = get_or (levels_within t i) x none

  -- Some state that is reached within so many bytes leads to x.
  abbrev pub reached : ℕ → ℕ → Bool
  reached i x = any (states t) (λ s. given (within i s) && leads_to t s x)

  -- At first the start state alone has a level.
  pub within_first : (x : ℕ) → x < states t → within 0 x ≡ when (eqb x (start t)) 0
  within_first x h = list_at (states t) x (λ x. when (eqb x (start t)) 0) none h

  -- One byte more.
  pub within_next : (i x : ℕ) → x < states t → within (suc i) x ≡ or_else (within i x) (when (reached i x) (suc i))
  within_next i x h = list_at (states t) x (λ x. or_else (within i x) (when (reached i x) (suc i))) none h

  -- A level stays in the next round.
  pub within_stays : (i x l : ℕ) → x < states t → within i x ≡ some l → within (suc i) x ≡ some l
  within_stays i x l h e = within_next i x h ∙ ap (λ (o : Option ℕ). or_else o (when (reached i x) (suc i))) e

  -- So it stays in all later ones.
  pub within_grows : (j i x l : ℕ) → x < states t → i ≤ j → within i x ≡ some l → within j x ≡ some l
  within_grows zero i x l h k e = let z : i ≡ 0 = omega arith in rw z at e
  within_grows (suc j) i x l h k e = go (ℕ_discrete i (suc j)) (within_grows j i x l h)
    where
      go : Dec (i ≡ suc j) → (i ≤ j → within i x ≡ some l → within j x ≡ some l) → within (suc j) x ≡ some l
      go (yes q) ih = rw q at e
      go (no q) ih = within_stays j x l h (ih (omega arith) e)

  -- A state has one level, whatever rounds find it.
  pub within_one : (i j x l m : ℕ) → x < states t → within i x ≡ some l → within j x ≡ some m → l ≡ m
  within_one i j x l m h e q = some_same (sym (within_grows (i + j) i x l h (omega arith) e) ∙ within_grows (i + j) j x m h (omega arith) q)

  -- The level is the round that found it: the state has it in that round, which is not after this one.
  pub within_found : (i x l : ℕ) → x < states t → within i x ≡ some l → (l ≤ i) × (within l x ≡ some l)
  within_found zero x l h e =
      let (_, z) = when_is (eqb x (start t)) 0 l (sym (within_first x h) ∙ e) in
      (omega arith, rw (← z) (rw (← z) at e))
  within_found (suc i) x l h e = go (within i x) refl (within_found i x l h)
    where
      go : (o : Option ℕ) → within i x ≡ o → (within i x ≡ some l → (l ≤ i) × (within l x ≡ some l)) → (l ≤ suc i) × (within l x ≡ some l)
      go none q ih =
          let w : when (reached i x) (suc i) ≡ some l = ap (λ (o : Option ℕ). or_else o (when (reached i x) (suc i))) (sym q) ∙ sym (within_next i x h) ∙ e in
          let (_, z) = when_is (reached i x) (suc i) l w in
          (omega arith, ap (λ (j : ℕ). within j x) (sym z) ∙ e)
      go (some m) q ih =
          let z : m ≡ l = some_same (sym (within_stays i x m h q) ∙ e) in
          let (k, w) = ih (q ∙ ap {B = Option ℕ} some z) in
          (omega arith, w)

  -- A class leads to the next state.
  pub leads_next : (s c : ℕ) → c < classes t → leads_to t s (next t s c) ≡ true
  leads_next s c h = any_found (classes t) c (λ d. eqb (next t s d) (next t s c)) h (eq-eqb (next t s c) (next t s c) refl)

  -- Where a state with a level leads to x, x has one that is at most one more.
  pub within_leads : (i s x l : ℕ) → s < states t → x < states t → within i s ≡ some l → leads_to t s x ≡ true → (m : ℕ) × (within (suc i) x ≡ some m) × (m ≤ suc l)
  within_leads i s x l hs hx e leads =
      let (k, w) = within_found i s l hs e in
      let r : reached l x ≡ true = any_found (states t) s (λ s. given (within l s) && leads_to t s x) hs (rw (w, leads)) in
      let (m, q, b) = go (within l x) refl r in
      (m, within_grows (suc i) (suc l) x m hx (omega arith) q, b)
    where
      go : (o : Option ℕ) → within l x ≡ o → reached l x ≡ true → (m : ℕ) × (within (suc l) x ≡ some m) × (m ≤ suc l)
      go none q r = (suc l, within_next l x hx ∙ rw (q, r), omega arith)
      go (some m) q r = (m, within_stays l x m hx q, omega (arith, (within_found l x m hx q).0))

  -- A state of level l + 1 was not reached before, and some state of level l leads to it.
  pub within_back : (x l : ℕ) → x < states t → within (suc l) x ≡ some (suc l)
      → (within l x ≡ none) × ((s : ℕ) × (s < states t) × (within l s ≡ some l) × (leads_to t s x ≡ true))
  within_back x l h e =
      let (new, w) = or_else_is (within l x) (when (reached l x) (suc l)) (suc l) (sym (within_next l x h) ∙ e) (λ q. omega (arith, (within_found l x (suc l) h q).0)) in
      let (r, _) = when_is (reached l x) (suc l) (suc l) w in
      let (s, hs, b) = any_some (states t) (λ s. given (within l s) && leads_to t s x) r in
      let (g, leads) = and_true (given (within l s)) (leads_to t s x) b in
      let (m, q) = given_is (within l s) g in
      (new, (s, hs, go s m hs q leads new (dec_lt m l), leads))
    where
      go : (s m : ℕ) → s < states t → within l s ≡ some m → leads_to t s x ≡ true → within l x ≡ none → Dec (m < l) → within l s ≡ some l
      go s m hs q leads new (yes k) =
          let (p, r, b) = within_leads m s x m hs h (within_found l s m hs q).1 leads in
          absurd (none≢some (within l x) p new (within_grows l (suc m) x p h k r))
      go s m hs q leads new (no k) = let z : m ≡ l = omega (arith, (within_found l s m hs q).0) in q ∙ ap {B = Option ℕ} some z
