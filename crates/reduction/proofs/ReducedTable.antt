-- The reduced table of an accepted table: what is read of it, and that it is accepted.
use mathlib.Core.Path.{refl, sym, ◌∙◌}
use mathlib.Core.List.{List}
use Prim.Native.Nat.{ℕ, ◌+◌, ◌≤◌, ◌<◌}
use native.Mathlib.Omega.{arith}
use Rattle.paper.specs.Words.{Bytes}
use Rattle.paper.specs.Table as table
use Rattle.paper.specs.Table.{edition, classes, start, class_of, labels}
use Rattle.paper.specs.FallBack.{levels}
use Rattle.paper.specs.Reduce.{reduced}
use Rattle.paper.proofs.Labels.{Small, labels_small, behind_same}
use Rattle.facts.proofs.LabelFacts.{Labelled, labelled_same}
use Rattle.facts.proofs.TableFacts.{AcceptedTable}
use Rattle.trips.proofs.TableBytes.{TableReads, made_reads}
use Rattle.trips.proofs.ImageReads.{classed_same}
use Rattle.trips.proofs.ResultBytes.{table_from_bytes}
use Rattle.reduction.proofs.Reach.{reached-start, reached_below, closed}
use Rattle.reduction.specs.Left.{new, old, left, new_labels, new_next}
use Rattle.reduction.proofs.Renumbered.{left_le, new_below, old-reached, next_below}

module _ (t : List ℕ) (B : Bytes t) (A : AcceptedTable t) where
  -- The new start is a state left.
  pub starts_below : new t (levels t) (start t) < left t (levels t)
  starts_below = new_below t (levels t) (closed t A) (start t) (reached-start t A)

  -- At most 512 states are left.
  pub few_left : left t (levels t) ≤ 512
  few_left = omega (arith, left_le t (levels t), A.few_states)

  -- The labels of a state left are those of a state of the table.
  pub left-labelled : (s : ℕ) → s < left t (levels t) → Labelled (edition t) (new_labels t (levels t) s)
  left-labelled s h = A.all_labelled (old t (levels t) s) (reached_below t (old t (levels t) s) (old-reached t (levels t) (closed t A) s h))

  -- They have 16 bits.
  pub left_small : (s : ℕ) → Small (new_labels t (levels t) s)
  unfolding labels
  left_small s = labels_small t 262 (table.states t) (edition t) B (old t (levels t) s)

  -- Of the reduced table are read the states left, the table's classes, and rows and labels of the old states with the new numbers.
  pub reduced-reads : TableReads (edition t) (left t (levels t)) (classes t) (new t (levels t) (start t)) (class_of t) (new_labels t (levels t)) (new_next t (levels t)) (reduced t)
  unfolding reduced
  reduced-reads =
      made_reads (edition t) (left t (levels t)) (classes t) (new t (levels t) (start t)) (class_of t) (new_labels t (levels t)) (new_next t (levels t))
      (omega (arith, few_left)) (omega (arith, A.few_classes)) (omega (arith, few_left, starts_below)) left-labelled (λ s hs. left_small s)
      (λ s c hs hc. omega (arith, few_left, next_below t (levels t) (closed t A) s c hs hc))

  -- The reduced table is known to be accepted.
  pub reduced-right : AcceptedTable (reduced t)
  unfolding table.labels
  reduced-right =
      let R = reduced-reads in
      let N = R.states_is in
      let K = R.classes_is in
      let n = left t (levels t) in
      record {
        some_states = omega (arith, starts_below);
        few_states = omega (arith, few_left);
        some_classes = omega (arith, A.some_classes);
        few_classes = omega (arith, A.few_classes);
        long = R.long ∙ rw (behind_same (reduced t) 262 (table.states (reduced t)) n (table.edition (reduced t)) (edition t) (new_labels t (levels t)) N R.edition_is R.labels_are, N, K) refl;
        begins = omega (arith, R.start_is, starts_below);
        all_classed = classed_same (classes t) (classes (reduced t)) (class_of t) (class_of (reduced t)) (sym K) R.class_is A.all_classed;
        all_labelled = λ s hs. let l : s < n = omega arith in labelled_same R.edition_is (R.labels_are s l) (left-labelled s l);
        inside = λ s c hs hc.
            let hs' : s < n = omega arith in
            let hc' : c < classes t = omega arith in
            omega (arith, R.next_is s c hs' hc', next_below t (levels t) (closed t A) s c hs' hc');
      }

  -- It has no more states.
  pub reduced_fewer : table.states (reduced t) ≤ table.states t
  reduced_fewer = omega (arith, reduced-reads.states_is, left_le t (levels t))

-- The reduced table is bytes.
pub reduced_bytes : (t : List ℕ) → Bytes t → Bytes (reduced t)
unfolding reduced
reduced_bytes t B =
    table_from_bytes (edition t) (left t (levels t)) (classes t) (new t (levels t) (start t)) (class_of t) (new_labels t (levels t)) (new_next t (levels t)) (λ x. B (6 + x))
