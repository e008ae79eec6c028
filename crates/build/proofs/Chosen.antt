-- Compact: what is known of the defaults chosen in an array, and what it answers on each ground and on none.
use mathlib.Core.Path.{◌≡◌, sym, ap, ◌∙◌}
use mathlib.Core.Bool.{false, not}
use mathlib.Core.Logic.{⊎_elim}
use mathlib.Core.Option.{Option}
use mathlib.Core.List.{List, [], ◌∷◌}
use Prim.Native.Nat.{ℕ, ◌≤◌, ◌<◌}
use native.Mathlib.Omega.{arith}
use lib.Dec.{ltb}
use lib.ListN.{length}
use borrow.Author.Tests.{lt-ltb, le-ltb}
use Rattle.paper.specs.Below.{any, given}
use Rattle.paper.specs.Refusals.{Ground, first}
use Rattle.paper.specs.Table.{states}
use Rattle.paper.specs.View.{View, endless}
use Rattle.paper.specs.Results.{table_view}
use Rattle.paper.specs.Defaults.{defaults}
use Rattle.paper.specs.Operations.{judge_table_of, compacted, compact_grounds, compact}
use Rattle.paper.specs.Promises.{Compacts}
use Rattle.paper.proofs.Below.{any_none}
use Rattle.trips.proofs.DefaultsWritable.{defaults_writable}
use Rattle.weights.specs.Chosen.{Chosen}
use Rattle.table.proofs.Decided.{Decided}
use Rattle.chains.specs.Orders.{defaults_view, InRange}
use Rattle.chains.specs.Sweeps.{Falls}
use Rattle.chains.proofs.Agrees.{endless-agrees}
use Rattle.pairs.specs.declared.Tie.TheVariants.{States, Path, Growth}
use Rattle.choice.specs.declared.Order.{Order}
use Rattle.choice.specs.declared.Order.TheVariants.{Roots, Start}
use Rattle.choice.specs.Order.{number_of_order}
use Rattle.build.specs.Measured.{list_image_of, Fills}
use Rattle.build.proofs.Lists.{list-falls, list_image}
use Rattle.build.proofs.Grounds.{refuses, table_refused, table_passed, fills_same}

-- The number of an order is at most 3.
pub known_order : (o : Order) → number_of_order o ≤ 3
known_order (Roots States) = omega arith
known_order (Roots Path) = omega arith
known_order (Roots Growth) = omega arith
known_order Start = omega arith

module _ (t : List ℕ) (order D n : ℕ) (def : List ℕ) (N : n ≡ states t) (C : Chosen n (defaults t order D) def) where
  -- The view with the defaults.
  abbrev v : View
  v = table_view t (defaults t order D)

  -- The defaults are in range.
  pub chosen_range : InRange n def
  chosen_range s h e = ⊎_elim (λ q. absurd (e q)) (λ q. q) (C s h).state_is

  falls : Falls v n def
  falls = list-falls t (defaults t order D) n def N (λ s h. sym (C s h).default_is)

  -- No chain of them is endless.
  pub chosen-ends : judge_table_of t ≡ 0 → any n (endless (defaults_view n def)) ≡ false
  chosen-ends e =
      sym (endless-agrees falls chosen_range)
      ∙ any_none (states t) (endless v) (λ s h. let (_, q) = (defaults_writable t e order D).ends s h in ap (λ (o : Option ℕ). not (given o)) q)

module _ (t : List ℕ) (order D : ℕ) (room : List ℕ) (number l : ℕ) where
  -- The grounds after the table's.
  abbrev rest : List Ground
  rest = (16, ltb (length room) (length (compacted t order D))) ∷ []

  -- Ground 18.
  pub compact_unknown : 3 < order → number ≡ 18 → l ≡ 0 → Compacts t order D room number l room
  unfolding compact compact_grounds
  compact_unknown h e q = refuses (compact_grounds t order D (length room)) (compacted t order D) room number l (rw (lt-ltb 3 order h) e) (λ z. omega arith) q

  -- A table that is refused.
  pub compact_judged : order ≤ 3 → number ≡ judge_table_of t → ¬ (number ≡ 0) → l ≡ 0 → Compacts t order D room number l room
  unfolding compact compact_grounds
  compact_judged h e n q = refuses (compact_grounds t order D (length room)) (compacted t order D) room number l (rw (le-ltb 3 order h) (table_refused t rest number e n)) n q

  module _ (known : order ≤ 3) (e : judge_table_of t ≡ 0) (n : ℕ) (def : List ℕ) (N : n ≡ states t) (C : Chosen n (defaults t order D) def) where
    left : Decided (first (compact_grounds t order D (length room))) rest
    unfolding compact_grounds
    left = record { decided = rw (le-ltb 3 order known) (table_passed t rest e).decided }

    -- Ground 16, or the image.
    pub compact_fills : (after : List ℕ) → Fills (list_image_of t def) room number l after → Compacts t order D room number l after
    unfolding compact compacted
    compact_fills after F =
        fills_same (list_image_of t def) (compacted t order D) room after number l (first (compact_grounds t order D (length room))) F
        (list_image t (defaults t order D) n def N (chosen_range t order D n def N C) (λ s h. sym (C s h).default_is))
        left
