-- After i rounds the array holds the levels of the states that are reached within i bytes.
use mathlib.Core.Path.{◌≡◌, refl, sym, ap, ◌∙◌}
use mathlib.Core.Bool.{Bool, true, false, ◌&&◌, true≢false}
use mathlib.Core.List.{List}
use mathlib.Core.Option.{Option, none, some}
use Prim.Native.Nat.{ℕ, suc, ◌+◌, ◌<◌}
use native.Mathlib.Numerals.{add-one}
use native.Mathlib.Decide.{ℕ_discrete, dec_lt}
use native.Mathlib.Omega.{arith}
use lib.Dec.{eqb}
use lib.ListN.{length, get_or, set}
use lib.Seq.{get_or-set_same, get_or-set_other}
use borrow.Author.Tests.{eq-eqb, ne_eqb, eqb-true}
use Rattle.paper.specs.Below.{or, given}
use Rattle.paper.specs.Table.{states, start}
use Rattle.paper.specs.FallBack.{leads_to}
use Rattle.paper.proofs.Below.{and_true, any_found, any_some, any_at}
use Rattle.paper.proofs.Tests.{none≢some}
use Rattle.facts.proofs.TableFacts.{AcceptedTable}
use Rattle.levels.proofs.Within.{within, reached, given_is, within_first, within_next, within_stays, within_found, within_grows, within_leads}
use Rattle.levels.proofs.Ranks.{within_below, within_last}
use Rattle.levels.proofs.Levels.{level_within}
use Rattle.toward.specs.Marked.{marked, Marked, finds, has, LevelsIn}
use Rattle.toward.proofs.Marks.{marked-kept}

-- A level as a number, 65535 for none.
abbrev pub level_number : Option ℕ → ℕ
level_number o = or o 65535

-- The array holds the level of each state that is reached within i bytes, and 65535 for the others.
abbrev pub HoldsWithin : List ℕ → ℕ → ℕ → List ℕ → Type 0
HoldsWithin t n i array = (x : ℕ) → x < n → get_or array x 0 ≡ level_number (within t i x)

module _ (t : List ℕ) (A : AcceptedTable t) (n : ℕ) (en : n ≡ states t) where
  -- At first the start state alone has a level: an array of 65535 with 0 at its place.
  pub holds_first : (blank : List ℕ) → length blank ≡ 512 → ((x : ℕ) → x < 512 → get_or blank x 0 ≡ 65535) → (s : ℕ) → s ≡ start t → HoldsWithin t n 0 (set blank s 0)
  holds_first blank long all s e x h = go (ℕ_discrete x s)
    where
      few : x < 512
      few = omega (arith, A.few_states)

      go : Dec (x ≡ s) → get_or (set blank s 0) x 0 ≡ level_number (within t 0 x)
      go (yes q) =
          rw (within_first t x (omega arith), eq-eqb x (start t) (q ∙ e))
          (ap (λ (y : ℕ). get_or (set blank s 0) y 0) q ∙ get_or-set_same blank s 0 0 (omega (arith, long, q)))
      go (no q) =
          rw (within_first t x (omega arith), ne_eqb x (start t) (λ z. q (z ∙ sym e)))
          (get_or-set_other blank s x 0 0 q ∙ all x few)

  module _ (i : ℕ) (hi : i < n) (old : List ℕ) (H : HoldsWithin t n i old) where
    -- A state without a level that a state of this level leads to is reached in this round.
    found-reached : (x : ℕ) → finds t old i n x ≡ true → reached t i x ≡ true
    found-reached x f =
        let (s, hs, b) = any_some n (λ s. eqb (get_or old s 0) i && leads_to t s x) f in
        let (q, leads) = and_true (eqb (get_or old s 0) i) (leads_to t s x) b in
        any_found (states t) s (λ s. given (within t i s) && leads_to t s x) (omega arith)
        (rw leads (at s (within t i s) refl (sym (H s hs) ∙ eqb-true (get_or old s 0) i q)))
      where
        at : (s : ℕ) (o : Option ℕ) → within t i s ≡ o → level_number (within t i s) ≡ i → given (within t i s) && true ≡ true
        at s none w z = absurd (omega (arith, sym (ap level_number w) ∙ z, A.few_states))
        at s (some m) w z = rw w

    -- And the other way.
    reached-found : (x : ℕ) → x < n → within t i x ≡ none → reached t i x ≡ true → finds t old i n x ≡ true
    reached-found x h new r =
        let (s, hs, b) = any_some (states t) (λ s. given (within t i s) && leads_to t s x) r in
        let (g, leads) = and_true (given (within t i s)) (leads_to t s x) b in
        let (m, q) = given_is (within t i s) g in
        let z : m ≡ i = this s m hs q leads (dec_lt m i) in
        any_found n s (λ s. eqb (get_or old s 0) i && leads_to t s x) (omega arith)
        (rw (leads, eq-eqb (get_or old s 0) i (H s (omega arith) ∙ ap level_number q ∙ z)))
      where
        this : (s m : ℕ) → s < states t → within t i s ≡ some m → leads_to t s x ≡ true → Dec (m < i) → m ≡ i
        this s m hs q leads (yes k) =
            let (p, w, b) = within_leads t m s x m hs (omega arith) (within_found t i s m hs q).1 leads in
            absurd (none≢some (within t i x) p new (within_grows t i (suc m) x p (omega arith) k w))
        this s m hs q leads (no k) = omega (arith, (within_found t i s m hs q).0)

    -- One round more.
    pub holds_round : (new : List ℕ) → Marked old new (finds t old i n) (i + 1) → HoldsWithin t n (i + 1) new
    holds_round new M x h =
        M.each_is x ∙ ap (λ (a : ℕ). marked a (finds t old i n x) (i + 1)) (H x h) ∙ go (within t i x) refl
        ∙ ap (λ (j : ℕ). level_number (within t j x)) (sym (add-one i))
      where
        hx : x < states t
        hx = omega arith

        go : (o : Option ℕ) → within t i x ≡ o → marked (level_number (within t i x)) (finds t old i n x) (i + 1) ≡ level_number (within t (suc i) x)
        go (some l) q =
            rw (q, within_stays t i x l hx q)
            (marked-kept l (i + 1) (finds t old i n x) (λ z. omega (arith, within_below t i x l hx q, A.few_states)))
        go none q = at (finds t old i n x) refl (reached t i x) refl
          where
            at : (f : Bool) → finds t old i n x ≡ f → (r : Bool) → reached t i x ≡ r
                → marked (level_number (within t i x)) (finds t old i n x) (i + 1) ≡ level_number (within t (suc i) x)
            at true f true r = rw (within_next t i x hx, q, f, r) (add-one i)
            at false f false r = rw (within_next t i x hx, q, f, r)
            at true f false r = absurd (true≢false (sym (found-reached x f) ∙ r))
            at false f true r = absurd (true≢false (sym (reached-found x h q r) ∙ f))

  -- Where a round has met no state of its level, the array holds every level.
  pub holds_last : (i : ℕ) → i < n → (old new : List ℕ) → HoldsWithin t n i old → has old i n ≡ false → HoldsWithin t n (i + 1) new → LevelsIn t n new
  holds_last i hi old new H none_has H' x h =
      let gone : (s : ℕ) → s < states t → ¬ (within t i s ≡ some i) = λ s hs q.
      true≢false (sym (eq-eqb (get_or old s 0) i (H s (omega arith) ∙ ap level_number q)) ∙ any_at n s (λ s. eqb (get_or old s 0) i) none_has (omega arith)) in
      let hx : x < states t = omega arith in
      H' x h
      ∙ ap level_number (within_last t i gone (i + 1) x hx (omega arith) ∙ sym (within_last t i gone (states t) x hx (omega arith)) ∙ sym (level_within t x))

  -- After n rounds the array holds every level.
  pub holds_levels : (array : List ℕ) → HoldsWithin t n n array → LevelsIn t n array
  holds_levels array H x h = H x h ∙ ap level_number (ap (λ (i : ℕ). within t i x) en ∙ sym (level_within t x))
