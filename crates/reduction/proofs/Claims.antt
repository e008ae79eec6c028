-- The claims on the reduced table: the same reports from the start, no two states left alike, no smaller table with the same reports.
use mathlib.Core.Path.{◌≡◌, refl, sym, ap, ◌∙◌, subst}
use mathlib.Core.Bool.{true}
use mathlib.Core.List.{List}
use Prim.Native.Nat.{ℕ, ◌≤◌, ◌<◌}
use native.Mathlib.Omega.{arith}
use Rattle.paper.specs.Words.{Bytes}
use Rattle.paper.specs.Table.{edition, states, classes, start, class_of, labels, next}
use Rattle.paper.specs.Scan.{walk_of}
use Rattle.paper.specs.Walk.{state_after}
use Rattle.paper.specs.FallBack.{levels}
use Rattle.paper.specs.Told.{SameReports, SameTold}
use Rattle.paper.specs.Reduce.{reached, reduced}
use Rattle.paper.proofs.Labels.{Small, labels_small}
use Rattle.facts.proofs.TableFacts.{AcceptedTable}
use Rattle.trips.proofs.TableBytes.{TableReads}
use Rattle.reduction.proofs.Words.{Word, word_below, word_same}
use Rattle.reduction.proofs.Reach.{closed, reached-start, reached_below, reached_led}
use Rattle.reduction.specs.Left.{new, left, new_labels, new_next}
use Rattle.reduction.proofs.Renumbered.{new_below, new-labels, new-next, next_below}
use Rattle.reduction.proofs.Merged.{left_apart}
use Rattle.reduction.proofs.Fewest.{left_fewest}
use Rattle.reduction.proofs.Reports.{Scans, table_scans}
use Rattle.reduction.proofs.SameReports.{reports_ends}
use Rattle.reduction.proofs.SameWalks.{Partners, walks_same}
use Rattle.reduction.proofs.ReducedTable.{reduced-reads, reduced-right, left_small}

module _ (t : List ℕ) (B : Bytes t) (A : AcceptedTable t) where
  -- The reduced table.
  abbrev u : List ℕ
  u = reduced t

  -- What is read of it.
  R : TableReads (edition t) (left t (levels t)) (classes t) (new t (levels t) (start t)) (class_of t) (new_labels t (levels t)) (new_next t (levels t)) u
  R = reduced-reads t B A

  -- A state of the reduced table and an old state whose new number it is.
  abbrev Renamed : ℕ → ℕ → Type 0
  Renamed s r = (reached t (levels t) r ≡ true) × (s ≡ new t (levels t) r)

  -- They go on as such, and have equal labels.
  renamed : Partners u t Renamed
  unfolding R
  renamed =
      record {
        on = λ s r x hx (q, z).
            let hr : r < states t = reached_below t r q in
            let hc : class_of t x < classes t = A.all_classed.below x hx in
            let hs : s < left t (levels t) = omega (arith, new_below t (levels t) (closed t A) r q) in (
              (closed t A).step r (class_of t x) hc q,
              ap (λ (c : ℕ). next u s c) (R.class_is x hx)
                  ∙ R.next_is s (class_of t x) hs hc
                  ∙ ap (λ (y : ℕ). new_next t (levels t) y (class_of t x)) z
                  ∙ new-next t (levels t) (closed t A) r (class_of t x) hc q,
            );
        labelled = λ s r (q, z).
            R.labels_are s (omega (arith, new_below t (levels t) (closed t A) r q)) ∙ ap (new_labels t (levels t)) z ∙ new-labels t (levels t) (closed t A) r q;
      }

  -- The start of the reduced table is the new number of the start.
  start_renamed : Renamed (start u) (start t)
  unfolding R
  start_renamed = (reached-start t A, R.start_is)

  -- It has the labels of the start.
  pub same_start : labels (reduced t) (start (reduced t)) ≡ labels t (start t)
  same_start = renamed.labelled (start u) (start t) start_renamed

  -- Every walk from it takes as many bytes and gives the same reports, in every room.
  pub same_told : (payload : List ℕ) (room : ℕ) → Bytes payload → SameTold (walk_of (reduced t) (start (reduced t)) payload room) (walk_of t (start t) payload room)
  same_told payload room b = walks_same u t Renamed renamed (start u) (start t) payload room b start_renamed

  -- Words end in the reduced table as among the states left.
  reduced-ends : (s : ℕ) (w : List ℕ) → s < left t (levels t) → Word (classes t) w → labels u (state_after (next u) s w) ≡ new_labels t (levels t) (state_after (new_next t (levels t)) s w)
  unfolding R
  reduced-ends s w hs a =
      ap (labels u) (word_same (left t (levels t)) (classes t) (new_next t (levels t)) (next u) (next_below t (levels t) (closed t A)) R.next_is s w hs a)
      ∙ R.labels_are (state_after (new_next t (levels t)) s w) (word_below (new_next t (levels t)) (left t (levels t)) (classes t) (next_below t (levels t) (closed t A)) s w hs a)

  -- The reduced table can be walked.
  reduced_scans : Scans u
  unfolding R
  reduced_scans =
      table_scans u (reduced-right t B A) (λ s hs. subst Small (sym (R.labels_are s (omega (arith, R.states_is)))) (left_small t B A s))

  -- No two states left have equal labels and equal reports for all payloads.
  pub left_told : (p q : ℕ) → p < states (reduced t) → q < states (reduced t) → labels (reduced t) p ≡ labels (reduced t) q → SameReports (reduced t) p (reduced t) q → p ≡ q
  unfolding R
  left_told p q hp hq same reports =
      let hp' : p < left t (levels t) = omega (arith, R.states_is) in
      let hq' : q < left t (levels t) = omega (arith, R.states_is) in
      let ends = reports_ends u u reduced_scans reduced_scans (λ x hx. refl) (reduced-right t B A).all_classed.used p q hp hq same reports in
      left_apart t (levels t) (closed t A) p q hp' hq'
      (λ w l a.
      sym (reduced-ends p w hp' a)
      ∙ ends w (omega (arith, A.few_states)) (subst (λ (k : ℕ). Word k w) (sym R.classes_is) a)
      ∙ reduced-ends q w hq' a)

  -- No accepted table with the same classes, the same labels at its start and the same reports from it has fewer states.
  pub left_least : (v : List ℕ) → Bytes v → AcceptedTable v → classes v ≡ classes t → ((x : ℕ) → x < 256 → class_of v x ≡ class_of t x)
      → labels v (start v) ≡ labels t (start t) → SameReports v (start v) t (start t) → states (reduced t) ≤ states v
  unfolding R labels
  left_least v B' A' k c same reports =
      let scans = table_scans t A (λ s hs. labels_small t 262 (states t) (edition t) B s) in
      let scans' = table_scans v A' (λ s hs. labels_small v 262 (states v) (edition v) B' s) in
      let ends = reports_ends v t scans' scans (λ x hx. sym (c x hx)) A'.all_classed.used (start v) (start t) A'.begins A.begins same reports in
      let fewest = left_fewest t (levels t) (closed t A) (reached_led t A) (states v) (next v) (labels v) (start v)
      (λ w l a. ends w (omega (arith, A.few_states)) (subst (λ (k : ℕ). Word k w) (sym k) a)) A'.begins (λ s d hs hd. A'.inside s d hs (omega arith)) in
      omega (arith, fewest, R.states_is)
