-- The rows of an image opened one after the other: the row that each falls from, and its entries, which wait where they begin.
use mathlib.Core.Path.{◌≡◌, refl, ap, ◌∙◌}
use mathlib.Core.List.{List}
use Prim.Native.Nat.{ℕ, ◌+◌, ◌*◌, ◌≤◌, ◌<◌}
use native.Mathlib.Decide.{ℕ_discrete}
use native.Mathlib.Omega.{arith}
use lib.ListN.{length, get_or, set, length-set}
use lib.Seq.{get_or-set_same, get_or-set_other}
use Rattle.paper.specs.Words.{number16}
use Rattle.paper.specs.View.{View}
use Rattle.paper.specs.Image.{default, count, entry_at, image_view}
use Rattle.image.specs.Passed.{Passed}
use Rattle.image.specs.Forms.{default_of}
use Rattle.image.specs.Forms.{Fallback}
use Rattle.std.specs.Prelude.{None, Some, unwrap_or}
use Rattle.image.proofs.Begins.{next_begin, begin_in}
use Rattle.abreast.specs.Laid.{head_class_of}
use Rattle.abreast.specs.Keeps.{Above, Stands, StandsIn, in_one}
use Rattle.abreast.specs.Opened.{row_of, Opened}
use Rattle.abreast.proofs.Standing.{stands_first}

-- Where a state falls is the row of its default.
pub row_above_lem : (f : Fallback) → unwrap_or f 512 ≡ row_of (default_of f)
row_above_lem None = refl
row_above_lem (Some d) = refl

-- Rows that are those of the defaults.
pub above_rows : (v : View) {n : ℕ} {up : List ℕ} → ((s : ℕ) → s < n → get_or up s 0 ≡ row_of (v.default s)) → Above v n up
above_rows v rows = record { root = λ s h e. rows s h ∙ ap row_of e; falls = λ s d h e. rows s h ∙ ap row_of e }

-- What holds before state s.
pub record Opening (b : List ℕ) (n at s : ℕ) (up place left wait : List ℕ) : Type 0 where
  pub within : s ≤ n
  pub at_is : at ≡ entry_at b s 0
  pub up_long : length up ≡ 512
  pub place_long : length place ≡ 512
  pub left_long : length left ≡ 512
  pub wait_long : length wait ≡ 512
  pub above : (q : ℕ) → q < s → get_or up q 0 ≡ row_of (default b q)
  pub stands : (q : ℕ) → q < s → StandsIn (image_view b) (in_one b) 0 place left wait q

module _ {b : List ℕ} {n k m : ℕ} (P : Passed b n k m) where
  -- The entries of a state begin in the image and end in it.
  pub row_in : (s : ℕ) → s < n → (entry_at b s 0 + 4 * count b s + 12 ≤ length b) × (length b < 600000)
  row_in s h =
      let L = P.laid in
      (omega (arith, next_begin b L s, begin_in b L (s + 1) (omega (arith, P.states_are))), omega (arith, L.long, L.few_states, L.few_entries, L.few_labels))

  -- They wait there.
  row_stands : (s class : ℕ) → s < n → class ≡ head_class_of b (entry_at b s 0) (count b s) → class < 65536 → Stands (image_view b) b 0 s (entry_at b s 0) (count b s) class
  unfolding entry_at
  row_stands s class h e small =
      let at : (i : ℕ) → entry_at b s 0 + 4 * i ≡ entry_at b s i = λ i. omega arith in
      stands_first refl (omega (arith, (row_in s h).0)) (row_in s h).1 (λ i l. ap (number16 b) (at i)) (λ i l. ap (λ (x : ℕ). number16 b (x + 2)) (at i)) e small

  -- At the start none is opened.
  pub opening_start : (at : ℕ) (up place left wait : List ℕ) → at ≡ entry_at b 0 0 → length up ≡ 512 → length place ≡ 512 → length left ≡ 512 → length wait ≡ 512
      → Opening b n at 0 up place left wait
  opening_start at up place left wait e lu lp ll lw =
      record {
        within = omega arith;
        at_is = e;
        up_long = lu;
        place_long = lp;
        left_long = ll;
        wait_long = lw;
        above = λ q h. absurd (omega arith);
        stands = λ q h. absurd (omega arith);
      }

  module _ {at s : ℕ} {up place left wait : List ℕ} (O : Opening b n at s up place left wait) (h : s < n) where
    -- One more.
    pub opening_more : (row many class : ℕ) → row ≡ row_of (default b s) → many ≡ count b s → class ≡ head_class_of b at many → class < 65536
        → Opening b n (at + 4 * many) (s + 1) (set up s row) (set place s at) (set left s many) (set wait s class)
    opening_more row many class r m c small =
        record {
          within = omega arith;
          at_is = omega (arith, O.at_is, m, next_begin b P.laid s);
          up_long = length-set up s row ∙ O.up_long;
          place_long = length-set place s at ∙ O.place_long;
          left_long = length-set left s many ∙ O.left_long;
          wait_long = length-set wait s class ∙ O.wait_long;
          above = λ q l. go q l (ℕ_discrete q s);
          stands = λ q l. stand q l (ℕ_discrete q s);
        }
      where
        few : s < 512
        few = omega (arith, P.few_states)

        go : (q : ℕ) → q < s + 1 → Dec (q ≡ s) → get_or (set up s row) q 0 ≡ row_of (default b q)
        go q l (yes e) = rw (e, get_or-set_same up s row 0 (omega (arith, O.up_long))) r
        go q l (no e) = get_or-set_other up s q row 0 e ∙ O.above q (omega arith)

        stand : (q : ℕ) → q < s + 1 → Dec (q ≡ s) → StandsIn (image_view b) (in_one b) 0 (set place s at) (set left s many) (set wait s class) q
        stand q l (yes e) =
            rw (e, get_or-set_same place s at 0 (omega (arith, O.place_long)), get_or-set_same left s many 0 (omega (arith, O.left_long)), get_or-set_same wait s class 0 (omega (arith, O.wait_long)), O.at_is, m)
            (row_stands s class h (c ∙ ap (λ (x : ℕ). head_class_of b x many) O.at_is ∙ ap (head_class_of b (entry_at b s 0)) m) small)
        stand q l (no e) = rw (get_or-set_other place s q at 0 e, get_or-set_other left s q many 0 e, get_or-set_other wait s q class 0 e) (O.stands q (omega arith))

  -- At the end all are.
  pub opening_done : {at s : ℕ} {up place left wait : List ℕ} → Opening b n at s up place left wait → n ≤ s → Opened (image_view b) (in_one b) n up place left wait
  opening_done O h =
      record {
        up_long = O.up_long;
        place_long = O.place_long;
        left_long = O.left_long;
        wait_long = O.wait_long;
        above = above_rows (image_view b) (λ q l. O.above q (omega arith));
        stands = λ q l. O.stands q (omega arith);
      }
