-- Where a patch lists a state: its listed states rise, so that each stands once.
use mathlib.Core.Path.{◌≡◌, refl, sym, ap, ◌∙◌}
use mathlib.Core.Bool.{Bool, true, false, true≢false}
use mathlib.Core.List.{List}
use mathlib.Core.Option.{Option, none, some}
use Prim.Native.Nat.{ℕ, ◌<◌}
use native.Mathlib.Decide.{dec_lt}
use native.Mathlib.Omega.{arith}
use lib.Dec.{eqb}
use borrow.Author.Tests.{eqb-true, eq-eqb, ne_eqb}
use Rattle.paper.specs.Below.{any, when}
use Rattle.paper.specs.Patch.{listed_states, state_at_of, listed_at}
use Rattle.paper.proofs.Below.{bool_false, any_some, any_found, any_none, first_of_none, first_of_one, first_of_some, first_of_empty}
use Rattle.paper.proofs.Tests.{none≢some}
use Rattle.paper.proofs.Chain.{some_same}
use Rattle.paper.proofs.Rising.{Rises, ahead}

-- A number that is given where a test passes is itself, and the test passes.
when_itself : (t : Bool) (i j : ℕ) → when t i ≡ some j → (t ≡ true) × (i ≡ j)
when_itself true i j e = (refl, some_same e)
when_itself false i j e = absurd (none≢some none j refl e)

-- A test that gives nothing fails.
when_nothing : (t : Bool) (i : ℕ) → when t i ≡ none → t ≡ false
when_nothing true i e = absurd (none≢some (some i) i e refl)
when_nothing false i e = refl

module _ (x : List ℕ) where
  -- A place where a state is listed is one of the p, and the state stands there.
  pub listed_some : (s i : ℕ) → listed_at x s ≡ some i → (i < listed_states x) × (state_at_of x i ≡ s)
  unfolding listed_at
  listed_some s i e =
      let (j, h, w) = first_of_some (λ i. when (eqb (state_at_of x i) s) i) (listed_states x) i e in
      let (t, q) = when_itself (eqb (state_at_of x j) s) j i w in
      (omega arith, ap (state_at_of x) (sym q) ∙ eqb-true (state_at_of x j) s t)

  -- A state that is listed nowhere stands at no place.
  pub listed_none : (s i : ℕ) → listed_at x s ≡ none → i < listed_states x → ¬ (state_at_of x i ≡ s)
  unfolding listed_at
  listed_none s i e h q =
      let t = when_nothing (eqb (state_at_of x i) s) i (first_of_empty (λ i. when (eqb (state_at_of x i) s) i) (listed_states x) i e h) in
      true≢false (sym (eq-eqb (state_at_of x i) s q) ∙ t)

  -- A state that stands at no place is listed nowhere.
  pub listed_nowhere : (s : ℕ) → ((i : ℕ) → i < listed_states x → ¬ (state_at_of x i ≡ s)) → listed_at x s ≡ none
  unfolding listed_at
  listed_nowhere s h = first_of_none (listed_states x) (λ i. eqb (state_at_of x i) s) (λ i l. ne_eqb (state_at_of x i) s (h i l))

  module _ (up : Rises (state_at_of x) (listed_states x)) where
    -- Two places with one state are one place.
    pub listed_once : (i j : ℕ) → i < listed_states x → j < listed_states x → state_at_of x i ≡ state_at_of x j → i ≡ j
    listed_once i j hi hj e = go (dec_lt i j) (dec_lt j i)
      where
        go : Dec (i < j) → Dec (j < i) → i ≡ j
        go (yes l) d = absurd (omega (arith, ahead (state_at_of x) (listed_states x) up i j l hj))
        go (no l) (yes k) = absurd (omega (arith, ahead (state_at_of x) (listed_states x) up j i k hi))
        go (no l) (no k) = omega arith

    -- Each listed state is listed at its place.
    pub listed_there : (i : ℕ) → i < listed_states x → listed_at x (state_at_of x i) ≡ some i
    unfolding listed_at
    listed_there i h =
        first_of_one (listed_states x) i (λ j. eqb (state_at_of x j) (state_at_of x i)) h (eq-eqb (state_at_of x i) (state_at_of x i) refl)
        (λ j hj t. listed_once j i hj h (eqb-true (state_at_of x j) (state_at_of x i) t))

    -- A test over the n states that passes at listed states alone is a test over the p places.
    pub any-listed : (n : ℕ) (f g : ℕ → Bool) → ((i : ℕ) → i < listed_states x → state_at_of x i < n) → ((s : ℕ) → s < n → listed_at x s ≡ none → f s ≡ false)
        → ((i : ℕ) → i < listed_states x → f (state_at_of x i) ≡ g i) → any n f ≡ any (listed_states x) g
    any-listed n f g below others same = go (any (listed_states x) g) refl
      where
        state : (s : ℕ) → s < n → ((i : ℕ) → i < listed_states x → g i ≡ false) → (o : Option ℕ) → listed_at x s ≡ o → f s ≡ false
        state s h clear none q = others s h q
        state s h clear (some i) q = let (l, e) = listed_some s i q in ap f (sym e) ∙ same i l ∙ clear i l

        go : (o : Bool) → any (listed_states x) g ≡ o → any n f ≡ o
        go true e = let (i, h, w) = any_some (listed_states x) g e in any_found n (state_at_of x i) f (below i h) (same i h ∙ w)
        go false e =
            any_none n f (λ s h. state s h (λ i l. bool_false (g i) (λ w. true≢false (sym (any_found (listed_states x) i g l w) ∙ e))) (listed_at x s) refl)
