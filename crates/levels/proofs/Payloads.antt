-- The level of a state is the length of a shortest payload that leads to it from the start state; a state without a level no payload leads to.
use mathlib.Core.Path.{◌≡◌, refl, sym, ap, ◌∙◌}
use mathlib.Core.Logic.{◌↔◌}
use mathlib.Core.List.{List, [], ◌∷◌, ◌++◌}
use mathlib.Core.Option.{Option, none, some}
use Prim.Native.Nat.{ℕ, zero, suc, ◌+◌, ◌≤◌, ◌<◌}
use native.Mathlib.Omega.{arith}
use lib.Dec.{eqb}
use lib.ListN.{length, length-append}
use borrow.Author.Tests.{eqb-true}
use Rattle.paper.specs.Words.{Bytes}
use Rattle.paper.specs.Table.{states, classes, start, class_of, next}
use Rattle.paper.specs.Walk.{next_on, state_after}
use Rattle.paper.specs.Reached.{LeadsTo, HasLevel}
use Rattle.paper.specs.FallBack.{level}
use Rattle.paper.proofs.Below.{any_some}
use Rattle.paper.proofs.Tests.{none≢some}
use Rattle.paper.proofs.Walk.{state_append}
use Rattle.facts.proofs.TableFacts.{AcceptedTable}
use Rattle.levels.proofs.Within.{within, when_is, within_first, within_one, within_back, within_leads, within_found, leads_next}
use Rattle.levels.proofs.Levels.{level_within, level-found, start_within}

-- One byte more behind bytes.
bytes_more : (p : List ℕ) (x : ℕ) → Bytes p → x < 256 → Bytes (p ++ (x ∷ []))
bytes_more [] x B h zero = h
bytes_more [] x B h (suc i) = omega arith
bytes_more (y ∷ p) x B h zero = B 0
bytes_more (y ∷ p) x B h (suc i) = bytes_more p x (λ j. B (suc j)) h i

module _ (t : List ℕ) (A : AcceptedTable t) where
  -- A payload leads from a state below n to one.
  after_inside : (p : List ℕ) (s : ℕ) → Bytes p → s < states t → state_after (next_on t) s p < states t
  after_inside [] s B h = h
  after_inside (x ∷ p) s B h = after_inside p (next_on t s x) (λ i. B (suc i)) (A.inside s (class_of t x) h (A.all_classed.below x (B 0)))

  -- A state of level l is where some payload of l bytes leads.
  payload_to : (l x : ℕ) → x < states t → within t l x ≡ some l → (p : List ℕ) × LeadsTo t x p × (length p ≡ l)
  payload_to zero x h e =
      let (q, _) = when_is (eqb x (start t)) 0 0 (sym (within_first t x h) ∙ e) in
      ([], record { bytes = λ i. omega arith; comes_to = sym (eqb-true x (start t) q) }, refl)
  payload_to (suc l) x h e =
      let (_, (s, hs, q, leads)) = within_back t x l h e in
      let (c, hc, w) = any_some (classes t) (λ c. eqb (next t s c) x) leads in
      let (y, hy, r) = A.all_classed.used c hc in
      let (p, to, long) = payload_to l s hs q in (
        p ++ (y ∷ []),
        record { bytes = bytes_more p y to.bytes hy; comes_to = state_append (next_on t) p (y ∷ []) (start t) ∙ rw (to.comes_to, r) (eqb-true (next t s c) x w) },
        length-append p (y ∷ []) ∙ omega (arith, long),
      )

  -- Where a payload leads from a state with a level, the level is at most as many more as the payload has bytes.
  payload_level : (p : List ℕ) (s i l : ℕ) → Bytes p → s < states t → within t i s ≡ some l → (j : ℕ) × (m : ℕ) × (within t j (state_after (next_on t) s p) ≡ some m) × (m ≤ l + length p)
  payload_level [] s i l B h e = (i, l, e, omega arith)
  payload_level (x ∷ p) s i l B h e =
      let c = class_of t x in
      let hc = A.all_classed.below x (B 0) in
      let hx = A.inside s c h hc in
      let (m, q, b) = within_leads t i s (next t s c) l h hx e (leads_next t s c hc) in
      let (j, m', q', b') = payload_level p (next t s c) (suc i) m (λ k. B (suc k)) hx q in
      (j, m', q', omega arith)

  module _ (x : ℕ) where
    -- Where a payload leads is a state that some round reaches, with no more bytes than the payload has.
    led_within : (p : List ℕ) → LeadsTo t x p → (x < states t) × ((j : ℕ) × (m : ℕ) × (within t j x ≡ some m) × (m ≤ length p))
    led_within p L =
        let (j, m, q, b) = payload_level p (start t) 0 0 L.bytes A.begins (start_within t A) in
        rw (← L.comes_to) (after_inside p (start t) L.bytes A.begins, (j, m, q, omega arith))

    -- So it is below n.
    pub led_inside : (p : List ℕ) → LeadsTo t x p → x < states t
    led_inside p L = (led_within p L).0

    -- The level of a state is the fewest bytes from the start state to it.
    pub has-level : (l : ℕ) → x < states t → level t x ≡ some l → HasLevel t x l
    has-level l h e =
        let w : within t (states t) x ≡ some l = sym (level_within t x) ∙ e in
        let (p, to, long) = payload_to l x h (within_found t (states t) x l h w).1 in
        record {
          payload = p;
          leads = to;
          length_is = long;
          fewest = λ p L. let (_, (j, m, q, b)) = led_within p L in omega (arith, within_one t j (states t) x m l h q w);
        }

    -- No payload leads to a state without a level.
    no_level : level t x ≡ none → (p : List ℕ) → ¬ LeadsTo t x p
    no_level e p L = let (h, (j, m, q, _)) = led_within p L in none≢some (level t x) m e (level-found t j x m h q)

    -- A state whose fewest bytes from the start state are so many has that level.
    pub level_is : (l : ℕ) → HasLevel t x l → level t x ≡ some l
    level_is l H = go (level t x) refl
      where
        go : (o : Option ℕ) → level t x ≡ o → level t x ≡ some l
        go none q = absurd (no_level q H.payload H.leads)
        go (some m) q =
            let G = has-level m (led_inside H.payload H.leads) q in
            let z : m ≡ l = omega (arith, G.fewest H.payload H.leads, H.fewest G.payload G.leads, G.length_is, H.length_is) in
            q ∙ ap {B = Option ℕ} some z

    -- A state to which no payload leads has none.
    is_none : x < states t → ((p : List ℕ) → ¬ LeadsTo t x p) → level t x ≡ none
    is_none h unled = go (level t x) refl
      where
        go : (o : Option ℕ) → level t x ≡ o → level t x ≡ none
        go none q = q
        go (some l) q = let H = has-level l h q in absurd (unled H.payload H.leads)

-- Levels are true: a state has a level just where it is the fewest bytes from the start state, and none just where no payload leads to it.
pub levels_true : (t : List ℕ) → AcceptedTable t → (x : ℕ) → x < states t
    → ((l : ℕ) → level t x ≡ some l ↔ HasLevel t x l) × (level t x ≡ none ↔ ((p : List ℕ) → ¬ LeadsTo t x p))
levels_true t A x h = (λ l. (has-level t A x l h, level_is t A x l), (no_level t A x, is_none t A x h))
