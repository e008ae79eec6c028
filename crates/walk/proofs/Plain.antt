-- One byte of the walk of an accepted table, and its labels, as the loop asks for them.
use mathlib.Core.Path.{◌≡◌, refl}
use mathlib.Core.List.{List}
use Prim.Native.Nat.{ℕ, ◌≤◌, ◌<◌}
use native.Mathlib.Omega.{arith}
use lib.ListN.{length}
use Rattle.paper.specs.Labels.{Edition, labels_from}
use Rattle.paper.specs.Table.{edition, states, classes, class_of, labels, next}
use Rattle.facts.proofs.LabelFacts.{most_16}
use Rattle.facts.proofs.TableFacts.{AcceptedTable}
use Rattle.labels.specs.Tags.{Firsts}
use Rattle.running.specs.Rules.{table_rules, Reached, Labelled}
use Rattle.running.proofs.Stands.{Stands}

module _ (t : List ℕ) (A : AcceptedTable t) where
  -- A byte's class is below k.
  pub class_in : (x class : ℕ) → x < 256 → class ≡ class_of t x → class < classes t
  class_in x class h e = rw e (A.all_classed.below x h)

  -- A byte leads from a state of the table to one, without a hop.
  pub byte_reached : (s x : ℕ) → s < states t → x < 256 → Reached (states t) (next t s (class_of t x)) 0
  byte_reached s x hs hx = record { inside = A.inside s (class_of t x) hs (A.all_classed.below x hx); few = omega arith }

  few : (s : ℕ) → s < states t → length (labels_from t 262 (states t) (edition t) s) ≤ 16
  unfolding labels
  few s h = omega (arith, (A.all_labelled s h).few, most_16 (edition t))

  module _ (n : ℕ) (n_is : n ≡ states t) (e : Edition) (e_is : e ≡ edition t) where
    -- The labels.
    pub table_stands : (firsts : List ℕ) → Firsts t 262 n e firsts → Stands t 262 n e firsts
    table_stands firsts F =
        record {
          near = omega arith;
          few_states = omega (arith, n_is, A.few_states);
          there = rw (n_is, e_is) (omega (arith, A.long));
          few = rw (n_is, e_is) few;
          firsts_are = F;
        }

    -- They are those of the states.
    pub table_labelled : Labelled (table_rules t) t 262 n e
    unfolding labels
    table_labelled = rw (n_is, e_is) (record { states_are = refl; labels_are = λ s h. refl })
