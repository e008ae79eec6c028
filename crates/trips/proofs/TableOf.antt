-- The second round trip: the table of an accepted image is accepted, and with the image's defaults its image is that image.
use mathlib.Core.Path.{◌≡◌, refl, sym, ap, ◌∙◌}
use mathlib.Core.Option.{Option}
use mathlib.Core.List.{List}
use Prim.Native.Nat.{ℕ, ◌<◌}
use native.Mathlib.Omega.{arith}
use Rattle.paper.specs.Words.{Bytes}
use Rattle.paper.specs.Table as table
use Rattle.paper.specs.View.{View, chain}
use Rattle.paper.specs.Image as image
use Rattle.paper.specs.Image.{image_view}
use Rattle.paper.specs.Results.{table_view, image_of, table_of}
use Rattle.paper.specs.Operations.{judge_table_of, judge_image_of}
use Rattle.paper.proofs.Words.{number16_below}
use Rattle.paper.proofs.Labels.{labels_small, behind_same}
use Rattle.facts.proofs.LabelFacts.{labelled_same}
use Rattle.facts.proofs.TableFacts.{AcceptedTable, table_accepted}
use Rattle.facts.proofs.ImageFacts.{AcceptedImage, accepted_image}
use Rattle.trips.proofs.Agree.{Agree, chain_same}
use Rattle.trips.proofs.Stored.{target_of, goes, goes_below}
use Rattle.trips.proofs.Unique.{one_view}
use Rattle.trips.proofs.Writable.{Writable, find-next, table_sound}
use Rattle.trips.proofs.TableBytes.{TableReads, made_reads}
use Rattle.trips.proofs.ImageReads.{classed_same, accepted_reads}
use Rattle.trips.proofs.ImageBack.{image_back}

module _ (b : List ℕ) (B : Bytes b) (e : judge_image_of b ≡ 0) where
  -- n, the number of states.
  abbrev n : ℕ
  n = image.states b

  -- k, the number of classes.
  abbrev k : ℕ
  k = image.classes b

  -- The image's table.
  abbrev t : List ℕ
  t = table_of b

  A : AcceptedImage b
  A = accepted_image b e

  -- Of its table are read its own numbers, and where its states go.
  pub table_reads : TableReads (image.edition b) n k (image.start b) (image.class_of b) (image.labels b) (goes (image_view b)) (table_of b)
  unfolding table_of image.labels
  table_reads =
      made_reads (image.edition b) n k (image.start b) (image.class_of b) (image.labels b) (goes (image_view b))
      (omega (arith, A.few_states)) (omega (arith, A.few_classes)) (number16_below b 4 B) A.all_labelled (λ s hs. labels_small b 268 n (image.edition b) B s)
      (λ s c hs hc. omega (arith, goes_below (image_view b) A.right s c hs hc, A.few_states))

  table_right : AcceptedTable t
  unfolding table.labels
  table_right =
      let R = table_reads in
      let N = R.states_is in
      let K = R.classes_is in
      record {
        some_states = omega (arith, A.some_states);
        few_states = omega (arith, A.few_states);
        some_classes = omega (arith, A.some_classes);
        few_classes = omega (arith, A.few_classes);
        long = R.long ∙ rw (behind_same t 262 (table.states t) n (table.edition t) (image.edition b) (image.labels b) N R.edition_is R.labels_are, N, K) refl;
        begins = omega (arith, R.start_is, A.begins);
        all_classed = classed_same k (table.classes t) (image.class_of b) (table.class_of t) (sym K) R.class_is A.all_classed;
        all_labelled = λ s hs. let l : s < n = omega arith in labelled_same R.edition_is (R.labels_are s l) (A.all_labelled s l);
        inside = λ s c hs hc.
            let hs' : s < n = omega arith in
            let hc' : c < k = omega arith in
            omega (arith, R.next_is s c hs' hc', goes_below (image_view b) A.right s c hs' hc');
      }

  -- The table keeps the image's edition.
  pub table_of_edition : table.edition (table_of b) ≡ image.edition b
  table_of_edition = table_reads.edition_is

  -- The table is accepted.
  pub table_of_accepted : judge_table_of (table_of b) ≡ 0
  table_of_accepted = table_accepted t table_right

  -- Defaults that below n are the image's.
  module _ (default : ℕ → Option ℕ) (same : (s : ℕ) → s < image.states b → default s ≡ image.default b s) where
    -- The table's view.
    abbrev v : View
    v = table_view t default

    -- The table can be written.
    pub table_of_writable : Writable (table_of b) default
    table_of_writable =
        let N = table_reads.states_is in
        record {
          judged = table_of_accepted;
          inside = λ s d hs q. let hs' : s < n = omega arith in omega (arith, A.right.inside s d hs' (sym (same s hs') ∙ q));
          ends = λ s hs.
              let hs' : s < n = omega arith in
              let (l, q) = A.right.ends s hs' in
              (l, ap (λ (x : ℕ). chain v x s) N ∙ sym (chain_same (image_view b) v A.right.inside (λ r hr. sym (same r hr)) n s hs') ∙ q);
        }

    -- Its view is the image's.
    pub views_agree : Agree (table_view (table_of b) default) (image_view b)
    views_agree =
        let R = table_reads in
        let N = R.states_is in
        let K = R.classes_is in
        one_view v (image_view b) (table_sound t default table_of_writable) A.right N K (λ s hs. same s (omega arith))
        (λ s c hs hc.
        let (r, found, target) = find-next t default table_of_writable s c hs hc in
        ap target_of found ∙ target ∙ R.next_is s c (omega arith) (omega arith))

    -- So its image is the image.
    pub image_of_defaults : image_of (table_of b) default ≡ b
    unfolding image_of
    image_of_defaults =
        let R = table_reads in
        let N = R.states_is in
        image_back (table.edition t) v (table.start t) (table.class_of t) (table.labels t) b B
        (accepted_reads (table.edition t) v (table.start t) (table.class_of t) (table.labels t) b A views_agree table_of_writable.inside
        (sym R.edition_is) (sym R.start_is) (λ x hx. sym (R.class_is x hx)) (λ s hs. sym (R.labels_are s (omega arith))))

  -- So it is with the image's defaults themselves.
  pub image_of_table : image_of (table_of b) (image.default b) ≡ b
  image_of_table = image_of_defaults (image.default b) (λ s hs. refl)

-- Two accepted images with the same table and the same defaults are one.
pub one_image : (b b' : List ℕ) → Bytes b → Bytes b' → judge_image_of b ≡ 0 → judge_image_of b' ≡ 0 → table_of b ≡ table_of b'
    → ((s : ℕ) → s < image.states b → image.default b s ≡ image.default b' s) → b ≡ b'
one_image b b' B B' e e' q same =
    let n : image.states b ≡ image.states b' = sym (table_reads b B e).states_is ∙ ap table.states q ∙ (table_reads b' B' e').states_is in
    sym (image_of_table b B e)
    ∙ ap (λ (t : List ℕ). image_of t (image.default b)) q
    ∙ image_of_defaults b' B' e' (image.default b) (λ s hs. same s (omega arith))
