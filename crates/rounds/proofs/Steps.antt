-- States with the same steps are alike in a round, and the first of them names them after it.
use mathlib.Core.Path.{◌≡◌, sym, ap₂, ◌∙◌}
use mathlib.Core.Bool.{true, ◌&&◌}
use mathlib.Core.List.{List}
use Prim.Native.Nat.{ℕ, zero, suc, ◌≤◌, ◌<◌}
use native.Mathlib.Decide.{dec_lt}
use native.Mathlib.Omega.{arith}
use lib.Dec.{eqb}
use lib.ListN.{get_or, get_or-eq_default}
use borrow.Author.Tests.{eq-eqb, eqb-true}
use Rattle.paper.specs.Below.{every, list}
use Rattle.std.specs.Ordering.{MatchOrdering, is_eq}
use Rattle.std.specs.declared.cmp.Ordering.{Ordering}
use Rattle.std.specs.declared.cmp.Ordering.TheVariants.{Less, Equal, Greater}
use Rattle.std.proofs.lemmas.Bool.{false≢true}
use Rattle.paper.specs.Table.{states, classes}
use Rattle.paper.proofs.Below.{and_true, bool_false, every_all, every_at}
use Rattle.paper.proofs.Lists.{length-list, get_or-list}
use Rattle.reduction.specs.Named.{meets, name_after_of, SomeRound}
use Rattle.reduction.proofs.Rounds.{search_found, after_some, name_head}
use Rattle.facts.proofs.TableFacts.{AcceptedTable}
use Rattle.naming.specs.Ordered.{Same, Before, BeforeIn}
use Rattle.naming.specs.Heads.{First}
use Rattle.rounds.specs.Steps.{after, steps, HasName, Headed}

module _ (t p : List ℕ) where
  -- A state with the lesser name comes before.
  pub names_less : (x y : ℕ) → get_or p x 0 < get_or p y 0 → Before (steps t p x) (steps t p y)
  names_less x y l = (0, λ i h. absurd (omega arith), l)

  -- A step is the name of a next state,
  step_at : (x c : ℕ) → c < classes t → steps t p x (suc c) ≡ after t p x c
  step_at x c h = get_or-list (classes t) c (after t p x) 0 h

  -- and behind the last class 0.
  step_behind : (x c : ℕ) → classes t ≤ c → steps t p x (suc c) ≡ 0
  step_behind x c h = get_or-eq_default (list (classes t) (after t p x)) 0 (omega (arith, length-list (classes t) (after t p x)))

  module _ (x y : ℕ) (e : get_or p x 0 ≡ get_or p y 0) where
    -- States with one name have the same steps where their next states have one name on every class,
    pub rows_same : ((c : ℕ) → c < classes t → after t p x c ≡ after t p y c) → Same (steps t p x) (steps t p y)
    rows_same s zero = e
    rows_same s (suc c) = go (dec_lt c (classes t))
      where
        go : Dec (c < classes t) → steps t p x (suc c) ≡ steps t p y (suc c)
        go (yes h) = step_at x c h ∙ s c h ∙ sym (step_at y c h)
        go (no h) = step_behind x c (omega arith) ∙ sym (step_behind y c (omega arith))

    -- and come in the order of these where they have not.
    pub rows_less : BeforeIn (classes t) (after t p x) (after t p y) → Before (steps t p x) (steps t p y)
    rows_less (c, h, s, l) = (suc c, at, omega (arith, step_at x c h, step_at y c h))
      where
        at : (i : ℕ) → i < suc c → steps t p x i ≡ steps t p y i
        at zero k = e
        at (suc i) k = step_at x i (omega arith) ∙ s i (omega arith) ∙ sym (step_at y i (omega arith))

  -- States with the same steps are alike,
  pub same_meets : (x y : ℕ) → Same (steps t p x) (steps t p y) → meets t p x y ≡ true
  same_meets x y s =
      ap₂ ◌&&◌ (eq-eqb (get_or p x 0) (get_or p y 0) (s 0))
      (every_all (classes t) (λ c. eqb (after t p x c) (after t p y c)) (λ c h. eq-eqb (after t p x c) (after t p y c) (sym (step_at x c h) ∙ s (suc c) ∙ step_at y c h)))

  -- and the other way.
  meets_same : (x y : ℕ) → meets t p x y ≡ true → Same (steps t p x) (steps t p y)
  meets_same x y w =
      let (a, b) = and_true (eqb (get_or p x 0) (get_or p y 0)) (every (classes t) (λ c. eqb (after t p x c) (after t p y c))) w in
      rows_same x y (eqb-true (get_or p x 0) (get_or p y 0) a)
      (λ c h. eqb-true (after t p x c) (after t p y c) (every_at (classes t) c (λ c. eqb (after t p x c) (after t p y c)) b h))

  -- So the first state with the steps of x is its name after the round.
  pub first_after : (x r : ℕ) → HasName p x → First (steps t p) (HasName p) x r → r ≡ name_after_of t p x
  first_after x r n F =
      search_found t p x r F.below
      (λ z l. bool_false (meets t p x z) (λ w. let s = meets_same x z w in F.none z l (λ q. n (s 0 ∙ q)) s))
      (same_meets x r F.same)
      ∙ after_some t p x n

  -- Of a named state the state that names it is the first with its steps, where it has them.
  pub first_head : Headed (states t) p → (x : ℕ) → x < states t → HasName p x → Same (steps t p x) (steps t p (get_or p x 0)) → First (steps t p) (HasName p) x (get_or p x 0)
  first_head H x h n s =
      let (l, e) = H x h n in record {
        below = l;
        counts = λ w. n (sym e ∙ w);
        same = s;
        none = λ z z_below c w.
            let q : get_or p x 0 ≡ get_or p z 0 = w 0 in
            omega (arith, q, (H z (omega arith) c).0);
      }

-- The names of some round are so.
pub headed : (t p : List ℕ) → AcceptedTable t → SomeRound t p → Headed (states t) p
headed t p A (i, N) x h n = let (l, _, e) = name_head t p A i N x h n in (l, sym e)

-- A comparison that answers that they are the same.
pub is_same : (P Q R : Type 0) (o : Ordering) → MatchOrdering o P Q R → is_eq o ≡ true → Q
is_same P Q R Less m e = absurd (false≢true e)
is_same P Q R Equal m e = m
is_same P Q R Greater m e = absurd (false≢true e)
