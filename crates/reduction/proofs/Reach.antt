-- The states that the start reaches: they have levels, words lead to them, and their next states are reached too.
use mathlib.Core.Path.{◌≡◌, refl, sym, ap, ◌∙◌}
use mathlib.Core.Bool.{true, ◌&&◌, true≢false}
use mathlib.Core.List.{List, [], ◌∷◌}
use mathlib.Core.Option.{none}
use Prim.Native.Nat.{ℕ, zero, suc, ◌≤◌, ◌<◌}
use native.Mathlib.Decide.{dec_lt}
use native.Mathlib.Omega.{arith}
use lib.Dec.{eqb}
use lib.ListN.{length, get_or, get_or-eq_default}
use Rattle.paper.specs.Below.{any, given, when, or_else}
use Rattle.paper.specs.Words.{Bytes}
use Rattle.paper.specs.Table.{states, classes, start, class_of, next}
use Rattle.paper.specs.Walk.{next_on, state_after}
use Rattle.paper.specs.FallBack.{leads_to, levels_within, levels, level}
use Rattle.paper.specs.Reduce.{reached}
use Rattle.paper.proofs.Lists.{length-list}
use Rattle.facts.proofs.TableFacts.{AcceptedTable}
use Rattle.levels.proofs.Within.{given_is}
use Rattle.levels.proofs.Levels.{level-start, level-next, level_below}
use Rattle.levels.proofs.Payloads.{has-level}
use Rattle.reduction.proofs.Words.{Word}
use Rattle.reduction.proofs.Blocks.{Closed}

-- The class of each byte of a payload.
abbrev classed : (ℕ → ℕ) → List ℕ → List ℕ
classed f [] = []
classed f (x ∷ xs) = f x ∷ classed f xs

-- There are as many.
classed_long : (f : ℕ → ℕ) (p : List ℕ) → length (classed f p) ≡ length p
classed_long f [] = refl
classed_long f (x ∷ p) = ap suc (classed_long f p)

module _ (t : List ℕ) where
  -- A word of at most so many classes leads from the start to the state.
  pub record Led (i x : ℕ) : Type 0 where
    pub word : List ℕ
    pub classed_is : Word (classes t) word
    pub short : length word ≤ i
    pub leads : state_after (next t) (start t) word ≡ x

  -- The levels have n places.
  levels_long : length (levels t) ≡ states t
  unfolding levels
  levels_long = go (states t)
    where
      go : (i : ℕ) → length (levels_within t i) ≡ states t
      go zero = length-list (states t) (λ x. when (eqb x (start t)) 0)
      go (suc i) =
          length-list (states t)
          (λ x. or_else (get_or (levels_within t i) x none) (when (any (states t) (λ s. given (get_or (levels_within t i) s none) && leads_to t s x)) (suc i)))

  -- A reached state is below n.
  pub reached_below : (x : ℕ) → reached t (levels t) x ≡ true → x < states t
  reached_below x e = go (dec_lt x (states t))
    where
      go : Dec (x < states t) → x < states t
      go (yes h) = h
      go (no h) = absurd (true≢false (sym e ∙ ap given (get_or-eq_default (levels t) none {n = x} (omega (arith, levels_long)))))

  -- Where bytes lead, the word of their classes leads.
  classed_leads : (p : List ℕ) (s : ℕ) → state_after (next t) s (classed (class_of t) p) ≡ state_after (next_on t) s p
  classed_leads [] s = refl
  classed_leads (x ∷ p) s = classed_leads p (next_on t s x)

  module _ (A : AcceptedTable t) where
    -- The start is reached.
    pub reached-start : reached t (levels t) (start t) ≡ true
    reached-start = ap given (level-start t A)

    -- So is each next state of a reached state.
    pub closed : Closed t (levels t)
    closed = record {
      below = reached_below;
      step = λ x c h e.
          let (l, q) = given_is (level t x) e in
          let (m, r, _) = level-next t A x c l (reached_below x e) h q in
          ap given r;
    }

    -- The classes of bytes are a word.
    classed_word : (p : List ℕ) → Bytes p → Word (classes t) (classed (class_of t) p)
    classed_word [] B = refl
    classed_word (x ∷ p) B = (A.all_classed.below x (B 0), classed_word p (λ i. B (suc i)))

    -- A word of at most n classes leads to each reached state.
    pub reached_led : (x : ℕ) → reached t (levels t) x ≡ true → Led (states t) x
    reached_led x e =
        let h = reached_below x e in
        let (l, q) = given_is (level t x) e in
        let H = has-level t A x l h q in
        record {
          word = classed (class_of t) H.payload;
          classed_is = classed_word H.payload H.leads.bytes;
          short = omega (arith, classed_long (class_of t) H.payload, H.length_is, level_below t x l h q);
          leads = classed_leads H.payload (start t) ∙ H.leads.comes_to;
        }
