-- The entries of a state with the default that stays: those of the image where it is the image's, else those of all classes.
use mathlib.Core.Path.{◌≡◌, refl, sym, ap, subst, ◌∙◌}
use mathlib.Core.List.{List, ◌++◌}
use Prim.Native.Nat.{ℕ, suc, ◌+◌, ◌*◌, ◌<◌}
use native.Mathlib.Decide.{ℕ_discrete}
use native.Mathlib.Omega.{arith}
use lib.ListN.{length, get_or, take, drop}
use Rattle.paper.specs.Below.{each}
use Rattle.paper.specs.Words.{Bytes, bytes16}
use Rattle.paper.specs.Labels.{Edition}
use Rattle.paper.specs.Table as table
use Rattle.paper.specs.View.{View}
use Rattle.paper.specs.Image.{states, classes, count, entry_at, entries_part_of, default, default_from_of, image_view}
use Rattle.paper.specs.Results.{default_number_of, labels_held_of, front, entry_bytes, table_view, image_of, table_of}
use Rattle.paper.proofs.Below.{each_same}
use Rattle.facts.proofs.ImageFacts.{AcceptedImage}
use Rattle.trips.proofs.Spans.{Spans, spans_move, spans_then, spans_part, part_taken}
use Rattle.trips.proofs.Labels.{default_number}
use Rattle.trips.proofs.ImageParts.{row_place, row_wide, entry_at_lem, Placed, image_placed}
use Rattle.trips.proofs.ImageReads.{ImageReads}
use Rattle.trips.proofs.ImageOf.{reads}
use Rattle.trips.proofs.TableOf.{table_of_writable, image_of_table}
use Rattle.trips.proofs.ResultBytes.{table_of_bytes}
use Rattle.chains.specs.Sweeps.{Falls}
use Rattle.chains.proofs.Defaults.{from_none}
use Rattle.build.specs.Pieces.{classes_and_labels, kept_entry, kept_row}
use Rattle.build.proofs.Pieces.{length-labelled}
use Rattle.build.proofs.Rows.{entries-row}
use Rattle.build.proofs.Same.{entries_at}
use Rattle.rewrite.specs.Staying.{root_entry, Setting}
use Rattle.rewrite.proofs.Standing.{judged, table_reads, next_goes}
use Rattle.rewrite.proofs.Staying.{stays_there}

-- An entry takes 4 bytes.
pub length-root : (b : List ℕ) (s c : ℕ) → length (root_entry b s c) ≡ 4
unfolding bytes16
length-root b s c = refl

module _ (b : List ℕ) (B : Bytes b) (A : AcceptedImage b) where
  -- The table, and its view with the image's defaults.
  abbrev t : List ℕ
  t = table_of b

  abbrev v : View
  v = table_view t (default b)

  -- How many labels it holds behind their counts.
  abbrev held : ℕ
  held = labels_held_of (table.edition t) (table.states t) (table.labels t)

  -- The image is that of its table with its defaults.
  same : image_of t (default b) ≡ b
  same = image_of_table b B (judged b B A)

  -- So it reads, and so its parts stand.
  read : ImageReads (table.edition t) v (table.start t) (table.class_of t) (table.labels t) b
  read = subst (ImageReads (table.edition t) v (table.start t) (table.class_of t) (table.labels t)) same
      (reads t (default b) (table_of_bytes b B) (table_of_writable b B (judged b B A) (default b) (λ s h. refl)))

  stands : Placed (table.edition t) v (table.start t) (table.class_of t) (table.labels t) b
  unfolding image_of
  stands = subst (Placed (table.edition t) v (table.start t) (table.class_of t) (table.labels t)) same (image_placed (table.edition t) v (table.start t) (table.class_of t) (table.labels t)).0

  -- The part of a state is the bytes of its entries.
  pub part_bytes : (s : ℕ) → s < states b → entries_part_of b s ≡ entry_bytes (table_view (table_of b) (default b)) s
  unfolding entries_part_of
  part_bytes s hs =
      let R = read in
      let N = R.view_is.states_same in
      let hv : s < v.states = omega arith in
      let place = entry_at_lem v held b R.long (sym N) R.entries_are s 0 (λ r hr. sym (R.view_is.count_same r (omega arith))) in
      let row : Spans b (entry_at b s 0) (entry_bytes v s) (row_place v held (suc s)) =
      spans_move (spans_part (entry_bytes v) (row_place v held) (row_wide v held) v.states s (spans_move stands.at_entries (omega arith) refl) hv) (omega (arith, place)) refl in
      part_taken (4 * count b s) row (omega (arith, row_wide v held s, R.view_is.count_same s hv))

  -- With a default that is the image's a state's entries are that part.
  pub part_kept : (stay : List ℕ) (s k : ℕ) → s < states b → k ≡ classes b → default_from_of (get_or stay s 0) ≡ default b s → entries_part_of b s ≡ kept_row (table_of b) k stay s
  unfolding entry_bytes
  part_kept stay s k hs K e =
      part_bytes s hs
      ∙ ap (λ (l : List (ℕ × ℕ)). each (length l) (λ j. bytes16 (get_or l j (0, 0)).0 ++ bytes16 (get_or l j (0, 0)).1)) (entries_at t (default b) (λ s. default_from_of (get_or stay s 0)) s (sym e))
      ∙ entries-row t stay s
      ∙ ap (λ (x : ℕ). kept_row t x stay s) ((table_reads b B A).classes_is ∙ sym K)

  -- Without one they are those of all classes.
  pub root_kept : (stay : List ℕ) (s k : ℕ) → s < states b → k ≡ classes b → get_or stay s 0 ≡ 65535 → each k (root_entry b s) ≡ kept_row (table_of b) k stay s
  root_kept stay s k hs K e =
      each_same k (root_entry b s) (kept_entry t (get_or stay s 0) s)
      (λ c hc. rw (from_none (get_or stay s 0) e) (ap (λ (x : ℕ). bytes16 c ++ bytes16 x) (sym (next_goes b B A s c hs (omega arith)))))

  -- The front of the table's image is read in the image.
  pub front_read : (depth m : ℕ) → front (table.edition b) (table.states b) (table.classes b) (table.start b) depth m ≡ front (table.edition (table_of b)) (table.states (table_of b)) (table.classes (table_of b)) (table.start (table_of b)) depth m
  front_read depth m = let R = table_reads b B A in sym (same_front R.edition_is R.states_is R.classes_is R.start_is)
    where
      same_front : {e e' : Edition} {n n' k k' s s' : ℕ} → e ≡ e' → n ≡ n' → k ≡ k' → s ≡ s' → front e n k s depth m ≡ front e' n' k' s' depth m
      same_front p q r u = rw (p, q, r, u) refl

  -- The classes and labels of the table stand behind the front of the image.
  pub labels_stand : (n h : ℕ) → n ≡ states b → h ≡ table.behind (table_of b) → take (256 + 2 * n + 2 * h) (drop 12 b) ≡ classes_and_labels (table_of b)
  unfolding classes_and_labels
  labels_stand n h N H =
      let P = stands in
      part_taken (256 + 2 * n + 2 * h) (spans_then P.at_classes P.at_labels) (omega (arith, length-labels_of, N, H, (table_reads b B A).states_is))
    where
      length-labels_of : length (classes_and_labels t) ≡ 256 + 2 * table.states t + 2 * table.behind t
      length-labels_of = length-labelled t

module _ {b : List ℕ} {n k records : ℕ} {begins stay : List ℕ} (S : Setting b n k records begins stay) (def : List ℕ) (F : Falls (image_view b) n def) (s : ℕ) (hs : s < n) where
  -- The part of a state whose default stays are its entries.
  pub row_kept : get_or def s 0 ≡ get_or stay s 0 → entries_part_of b s ≡ kept_row (table_of b) k stay s
  row_kept e = part_kept b S.readable S.accepted stay s k (omega (arith, S.states_are)) S.classes_are (ap default_from_of (sym e) ∙ sym (F.falls s hs))

  -- A default that does not stay is dropped.
  pub row_dropped : ¬ (get_or def s 0 ≡ get_or stay s 0) → get_or stay s 0 ≡ 65535
  row_dropped ne = go (ℕ_discrete (get_or stay s 0) 65535)
    where
      go : Dec (get_or stay s 0 ≡ 65535) → get_or stay s 0 ≡ 65535
      go (yes e) = e
      go (no e) =
          let there = stays_there b S.readable S.accepted n k S.states_are S.classes_are stay S.stays s hs e in
          absurd (ne (sym (default_number (get_or def s 0)) ∙ ap default_number_of (sym (F.falls s hs) ∙ there)))

  -- Then its entries are those of all classes.
  pub row-root : ¬ (get_or def s 0 ≡ get_or stay s 0) → each k (root_entry b s) ≡ kept_row (table_of b) k stay s
  row-root ne = root_kept b S.readable S.accepted stay s k (omega (arith, S.states_are)) S.classes_are (row_dropped ne)
