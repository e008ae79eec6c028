-- The names by labels, each the first reached state with the same labels, are the blocks with which the rounds begin.
use mathlib.Core.Path.{◌≡◌, refl, sym, ap₂, ◌∙◌}
use mathlib.Core.Bool.{true, false, ◌&&◌}
use mathlib.Core.List.{List}
use Prim.Native.Nat.{ℕ, ◌≤◌, ◌<◌}
use native.Mathlib.Omega.{arith}
use lib.ListN.{get_or}
use borrow.Author.Tests.{eq-eqb, ne_eqb, not-true, not-false}
use Rattle.paper.specs.Table.{states, labels}
use Rattle.paper.specs.FallBack.{levels}
use Rattle.paper.specs.Reduce.{reached}
use Rattle.facts.proofs.TableFacts.{AcceptedTable}
use Rattle.reduction.specs.Named.{Named, first_name_of, MarksReached, labelled_as, NoneLabelled}
use Rattle.reduction.proofs.Same.{eq_same}
use Rattle.reduction.proofs.Firsts.{least_found}
use Rattle.reduction.proofs.Blocks.{block_at, block_least}
use Rattle.reduction.proofs.Reach.{closed, reached_below}

module _ (t : List ℕ) where
  -- A state without a mark is reached, one with it is not.
  pub mark_not : (array : List ℕ) (x : ℕ) → MarksReached t array → x < states t → get_or array x 0 ≡ 65535 → reached t (levels t) x ≡ false
  mark_not array x M h e = not-true (reached t (levels t) x) (sym (M x h) ∙ eq-eqb (get_or array x 0) 65535 e)

  pub mark_reached : (array : List ℕ) (x : ℕ) → MarksReached t array → x < states t → ¬ (get_or array x 0 ≡ 65535) → reached t (levels t) x ≡ true
  mark_reached array x M h e = not-false (reached t (levels t) x) (sym (M x h) ∙ ne_eqb (get_or array x 0) 65535 e)

  -- A state that is not reached has no name.
  pub first_not : (x : ℕ) → reached t (levels t) x ≡ false → 65535 ≡ first_name_of t x
  unfolding first_name_of
  first_not x e = rw e refl

  module _ (A : AcceptedTable t) where
    -- The first reached state with the labels of a reached state is its name.
    pub first_found : (x y : ℕ) → y ≤ x → reached t (levels t) x ≡ true → NoneLabelled t x y → labelled_as t x y ≡ true → y ≡ first_name_of t x
    unfolding first_name_of
    first_found x y h e n q =
        least_found (states t) (labelled_as t x) (block_at t (levels t) 0 x) y (block_least t (levels t) (closed t A) 0 x e) (omega (arith, reached_below t x e)) q n
        ∙ rw e refl

    -- Where none before it is so it is the state itself.
    pub first_self : (x : ℕ) → reached t (levels t) x ≡ true → NoneLabelled t x x → x ≡ first_name_of t x
    first_self x e n = first_found x x (omega arith) e n (ap₂ ◌&&◌ e (eq_same (labels t x) (labels t x) refl))

  -- Such names of all states are those before the first round.
  pub first_named : (r : List ℕ) → ((x : ℕ) → x < states t → get_or r x 0 ≡ first_name_of t x) → Named t 0 r
  unfolding first_name_of
  first_named r h =
      record {
        names = λ x e. h x (reached_below t x e) ∙ rw e refl;
        others = λ x l e. h x l ∙ rw e refl;
      }
