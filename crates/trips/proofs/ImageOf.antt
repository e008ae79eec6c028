-- The first round trip: the image of a table that can be written is accepted, its table is that table, and its defaults are those given.
use mathlib.Core.Path.{◌≡◌, refl, sym, ap, ◌∙◌}
use mathlib.Core.Option.{Option}
use mathlib.Core.List.{List}
use Prim.Native.Nat.{ℕ, ◌<◌}
use native.Mathlib.Omega.{arith}
use Rattle.paper.specs.Words.{Bytes}
use Rattle.paper.specs.Table as table
use Rattle.paper.specs.View.{View}
use Rattle.paper.specs.Image as image
use Rattle.paper.specs.Image.{image_view}
use Rattle.paper.specs.Results.{table_view, image_of, table_of}
use Rattle.paper.specs.Operations.{judge_image_of}
use Rattle.paper.proofs.Labels.{labels_small, behind_same}
use Rattle.facts.proofs.TableFacts.{accepted_table}
use Rattle.facts.proofs.ImageFacts.{image_accepted}
use Rattle.trips.proofs.Agree.{find_same}
use Rattle.trips.proofs.Stored.{target_of, goes}
use Rattle.trips.proofs.Writable.{Writable, find-next, table_sound}
use Rattle.trips.proofs.TableBytes.{TableReads, table_back}
use Rattle.trips.proofs.ImageReads.{Fits, ImageReads, reads_accepted}
use Rattle.trips.proofs.ImageWritten.{image_reads}

module _ (t : List ℕ) (default : ℕ → Option ℕ) (B : Bytes t) (W : Writable t default) where
  -- The table's view.
  abbrev v : View
  v = table_view t default

  -- The image.
  abbrev i : List ℕ
  i = image_of t default

  fits : Fits (table.edition t) v (table.start t) (table.class_of t) (table.labels t)
  unfolding table.labels
  fits =
      let A = accepted_table t W.judged in
      record {
        some_states = A.some_states;
        few_states = A.few_states;
        some_classes = A.some_classes;
        few_classes = A.few_classes;
        begins = A.begins;
        all_classed = A.all_classed;
        all_labelled = A.all_labelled;
        all_small = λ s hs. labels_small t 262 (table.states t) (table.edition t) B s;
        right = table_sound t default W;
      }

  -- The image reads as the table's view with the defaults.
  pub reads : ImageReads (table.edition t) v (table.start t) (table.class_of t) (table.labels t) i
  unfolding image_of
  reads = image_reads (table.edition t) v (table.start t) (table.class_of t) (table.labels t) fits

  -- The image keeps the table's edition.
  pub image_of_edition : image.edition (image_of t default) ≡ table.edition t
  image_of_edition = reads.edition_is

  -- The image is accepted.
  pub image_of_accepted : judge_image_of (image_of t default) ≡ 0
  image_of_accepted = image_accepted i (reads_accepted (table.edition t) v (table.start t) (table.class_of t) (table.labels t) fits i reads)

  -- Its defaults are those given.
  pub defaults_of_image : (s : ℕ) → s < table.states t → image.default (image_of t default) s ≡ default s
  defaults_of_image s hs = sym (reads.view_is.default_same s hs)

  -- Its chains give the table's rows.
  goes_next : (s c : ℕ) → s < table.states t → c < table.classes t → table.next t s c ≡ goes (image_view i) s c
  goes_next s c hs hc =
      let (r, found, target) = find-next t default W s c hs hc in
      sym (ap target_of (sym (find_same v (image_view i) reads.view_is W.inside s c hs) ∙ found) ∙ target)

  -- Its table is the table.
  pub table_of_image : table_of (image_of t default) ≡ t
  unfolding table_of table.labels
  table_of_image =
      let S = reads.view_is in
      let N = S.states_same in
      let K = S.classes_same in
      let E = sym reads.edition_is in
      let same : (s : ℕ) → s < image.states i → table.labels t s ≡ image.labels i s = λ s hs. sym (reads.labels_are s (omega arith)) in
      let R : TableReads (image.edition i) (image.states i) (image.classes i) (image.start i) (image.class_of i) (image.labels i) (goes (image_view i)) t = record {
        long = (accepted_table t W.judged).long ∙ rw (behind_same t 262 (table.states t) (image.states i) (table.edition t) (image.edition i) (image.labels i) N E same, ← N, ← K) refl;
        edition_is = E;
        states_is = N;
        classes_is = K;
        start_is = sym reads.start_is;
        class_is = λ x hx. sym (reads.class_is x hx);
        labels_are = same;
        next_is = λ s c hs hc. goes_next s c (omega arith) (omega arith);
      } in
      table_back (image.edition i) (image.states i) (image.classes i) (image.start i) (image.class_of i) (image.labels i) (goes (image_view i)) t B R
