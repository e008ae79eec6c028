-- The rows of the image opened, and over them those of the patch: all entries of all states wait, each in the bytes of its state.
use mathlib.Core.Path.{◌≡◌, refl, sym, ap, ◌∙◌}
use mathlib.Core.List.{List}
use mathlib.Core.Option.{Option, none, some}
use Prim.Native.Nat.{ℕ, ◌+◌, ◌*◌, ◌≤◌, ◌<◌}
use native.Mathlib.Decide.{ℕ_discrete}
use native.Mathlib.Omega.{arith}
use lib.ListN.{length, get_or, set}
use Rattle.paper.specs.Words.{number16}
use Rattle.paper.specs.View.{View}
use Rattle.paper.specs.Image as image
use Rattle.paper.specs.Image.{image_view}
use Rattle.paper.specs.Patch.{state_at_of, default, count, entry_at, listed_states, listed_at, from_either, patched_view}
use Rattle.facts.proofs.Listed.{listed_some}
use Rattle.abreast.specs.Laid.{head_class_of}
use Rattle.abreast.specs.Keeps.{Above, Stands, StandsIn, in_one}
use Rattle.abreast.specs.Opened.{row_of, Opened}
use Rattle.abreast.proofs.Standing.{stands_first}
use Rattle.abreast.proofs.RowsOpened.{above_rows}
use Rattle.patch.specs.Overlay.{Overlay}
use Rattle.patch.proofs.Begins.{next_begin}
use Rattle.patch.proofs.Parts.{part_in, entry_place}
use Rattle.patch.proofs.Over.{Over, over_start, over_more, over_none, over_some}
use Rattle.overlaid.specs.Chosen.{bytes_of}
use Rattle.overlaid.proofs.Laid.{few_states, short}

-- The class of the first entry of a listed state.
abbrev pub own_head : List ℕ → ℕ → ℕ
own_head x i = head_class_of x (entry_at x i 0) (count x i)

-- What holds before listed state i: the rows of those before it are the patch's, the others the image's.
pub record Laying (b x : List ℕ) (n p : ℕ) (up₀ place₀ left₀ wait₀ : List ℕ) (at i : ℕ) (up place left wait : List ℕ) : Type 0 where
  pub within : i ≤ p
  pub at_is : at ≡ entry_at x i 0
  pub opened : Opened (image_view b) (in_one b) n up₀ place₀ left₀ wait₀
  pub ups : Over x (λ i. row_of (default x i)) up₀ up i
  pub places : Over x (λ i. entry_at x i 0) place₀ place i
  pub lefts : Over x (count x) left₀ left i
  pub waits : Over x (own_head x) wait₀ wait i
  pub small : (j : ℕ) → j < i → own_head x j < 65536

-- The row that a state falls from is its default's.
above_is : {v : View} {n : ℕ} {up : List ℕ} → Above v n up → (s : ℕ) → s < n → get_or up s 0 ≡ row_of (v.default s)
above_is {v} {n} {up} A s h = go (v.default s) refl
  where
    go : (o : Option ℕ) → v.default s ≡ o → get_or up s 0 ≡ row_of o
    go none e = A.root s h e
    go (some d) e = A.falls s d h e

-- Entries that wait in one view wait in another that has the same at the state.
stands_as : (v w : View) {b : List ℕ} {c s at left class : ℕ} → w.count s ≡ v.count s → ((j : ℕ) → w.entry_class s j ≡ v.entry_class s j)
    → ((j : ℕ) → w.entry_next s j ≡ v.entry_next s j) → Stands v b c s at left class → Stands w b c s at left class
stands_as v w many classes nexts S =
    record {
      entry = S.entry;
      cursor = record {
        within = omega (arith, S.cursor.within, many);
        under = λ i l. omega (arith, S.cursor.under i l, classes i);
        over = λ i l h. omega (arith, S.cursor.over i l (omega (arith, many)), classes i);
      };
      left_is = omega (arith, S.left_is, many);
      inside = S.inside;
      small = S.small;
      reads_class = λ i h. S.reads_class i h ∙ sym (classes (S.entry + i));
      reads-next = λ i h. S.reads-next i h ∙ sym (nexts (S.entry + i));
      class_is = S.class_is;
      class_small = S.class_small;
    }

module _ {b x : List ℕ} {n k m p q : ℕ} (O : Overlay b x n k m p q) where
  -- At the start all rows are the image's.
  pub laying_start : {up place left wait : List ℕ} (at : ℕ) → at ≡ entry_at x 0 0 → Opened (image_view b) (in_one b) n up place left wait
      → Laying b x n p up place left wait at 0 up place left wait
  laying_start {up} {place} {left} {wait} at e W =
      record {
        within = omega arith;
        at_is = e;
        opened = W;
        ups = over_start x (λ i. row_of (default x i)) up;
        places = over_start x (λ i. entry_at x i 0) place;
        lefts = over_start x (count x) left;
        waits = over_start x (own_head x) wait;
        small = λ j h. absurd (omega arith);
      }

  -- The entries of a listed state stand in the patch.
  pub row_in : (i : ℕ) → i < p → entry_at x i 0 + 4 * count x i + 12 ≤ length x
  row_in i h = part_in O.counts i h

  module _ {up₀ place₀ left₀ wait₀ : List ℕ} {at i : ℕ} {up place left wait : List ℕ} (L : Laying b x n p up₀ place₀ left₀ wait₀ at i up place left wait) where
    -- One listed state more.
    pub laying_more : i < p → (s row many class : ℕ) → s ≡ state_at_of x i → row ≡ row_of (default x i) → many ≡ count x i → class ≡ head_class_of x at many → class < 65536
        → Laying b x n p up₀ place₀ left₀ wait₀ (at + 4 * many) (i + 1) (set up s row) (set place s at) (set left s many) (set wait s class)
    laying_more h s row many class e r c w z =
        let few = few_states O in
        let W = L.opened in
        let head : class ≡ own_head x i = w ∙ ap (λ (y : ℕ). head_class_of x y many) L.at_is ∙ ap (head_class_of x (entry_at x i 0)) c in
        record {
          within = omega arith;
          at_is = omega (arith, L.at_is, c, next_begin O.counts i);
          opened = W;
          ups = over_more O.listed (λ i. row_of (default x i)) L.ups h (omega (arith, few, W.up_long)) s row e r;
          places = over_more O.listed (λ i. entry_at x i 0) L.places h (omega (arith, few, W.place_long)) s at e L.at_is;
          lefts = over_more O.listed (count x) L.lefts h (omega (arith, few, W.left_long)) s many e c;
          waits = over_more O.listed (own_head x) L.waits h (omega (arith, few, W.wait_long)) s class e head;
          small = λ j l. go j l (ℕ_discrete j i) (omega (arith, z, head));
        }
      where
        go : (j : ℕ) → j < i + 1 → Dec (j ≡ i) → own_head x i < 65536 → own_head x j < 65536
        go j l (yes u) y = rw u y
        go j l (no u) y = L.small j (omega arith)

    -- The entries of a state wait in its bytes.
    stands : i ≡ listed_states x → (s : ℕ) → s < n → (o : Option ℕ) → listed_at x s ≡ o → StandsIn (patched_view b x) (λ s. from_either o (λ _. x) b) 0 place left wait s
    stands all s h none e =
        rw (over_none (λ i. entry_at x i 0) L.places s all e, over_none (count x) L.lefts s all e, over_none (own_head x) L.waits s all e)
        (stands_as (image_view b) (patched_view b x) (rw e) (λ j. rw e) (λ j. rw e) (L.opened.stands s h))
    stands all s h (some i) e =
        let hi : i < p = omega (arith, (listed_some x s i e).0, O.counts.shaped.listed_are) in
        rw (over_some (λ i. entry_at x i 0) L.places s all i e, over_some (count x) L.lefts s all i e, over_some (own_head x) L.waits s all i e)
        (stands_first (rw e) (omega (arith, row_in i hi)) (short O) (λ j l. rw e (ap (number16 x) (entry_place x i j))) (λ j l. rw e (ap (λ (y : ℕ). number16 x (y + 2)) (entry_place x i j))) refl
        (L.small i (omega (arith, all, (listed_some x s i e).0))))

    -- At the end all rows are opened.
    pub laying_done : p ≤ i → Opened (patched_view b x) (bytes_of b x) n up place left wait
    laying_done h =
        let W = L.opened in
        let all : i ≡ listed_states x = omega (arith, L.within, O.counts.shaped.listed_are) in
        record {
          up_long = L.ups.long ∙ W.up_long;
          place_long = L.places.long ∙ W.place_long;
          left_long = L.lefts.long ∙ W.left_long;
          wait_long = L.waits.long ∙ W.wait_long;
          above = above_rows (patched_view b x) (λ s l. row all s l (listed_at x s) refl);
          stands = λ s l. stands all s l (listed_at x s) refl;
        }
      where
        row : i ≡ listed_states x → (s : ℕ) → s < n → (o : Option ℕ) → listed_at x s ≡ o → get_or up s 0 ≡ row_of (from_either o (default x) (image.default b s))
        row all s l none e = over_none (λ i. row_of (default x i)) L.ups s all e ∙ above_is L.opened.above s l
        row all s l (some j) e = over_some (λ i. row_of (default x i)) L.ups s all j e
