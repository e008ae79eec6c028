-- A room with the front, the classes and the labels of an image, and the rows that its chains give, is filled with its table, in either edition.
use mathlib.Core.Path.{◌≡◌, refl, sym, ap, ap₂, ◌∙◌}
use mathlib.Core.List.{List, ◌++◌}
use Prim.Native.Nat.{ℕ, ◌+◌, ◌-◌, ◌*◌, ◌≤◌, ◌<◌}
use native.Mathlib.Decide.{dec_lt}
use native.Mathlib.Omega.{arith}
use lib.ListN.{length, take, drop, length-drop, take-append-drop, get_or-eq_default}
use lib.Seq.{get_or-take, get_or-drop, ext_get_or, length-take-le}
use Rattle.paper.specs.Words.{byte_at, number16, Bytes}
use Rattle.paper.specs.Labels.{edition_of, states_in_word}
use Rattle.paper.specs.Table as table
use Rattle.paper.specs.View.{look}
use Rattle.paper.specs.Image as image
use Rattle.paper.specs.Image.{image_view}
use Rattle.paper.specs.Results.{table_from, table_of}
use Rattle.paper.specs.Operations.{filled}
use Rattle.paper.proofs.Labels.{labels_named, behind_same}
use Rattle.paper.proofs.LabelsMoved.{Copied, labels-moved}
use Rattle.trips.proofs.TableBytes.{TableReads, table_back}
use Rattle.spread.specs.Kept.{Kept}
use Rattle.spread.specs.Front.{rows_at, Fronted}
use Rattle.spread.specs.Rows.{row_at, RowStands}
use Rattle.spread.proofs.Placing.{number_same}
use Rattle.spread.proofs.Kept.{kept_then, number_before}
use Rattle.spread.proofs.Rows.{row_ends}

-- Behind a stretch the room is as it was.
drop-kept : {old room : List ℕ} {from to : ℕ} → Kept old room from to → drop to room ≡ drop to old
drop-kept {old} {room} {from} {to} K =
    ext_get_or 0 (drop to room) (drop to old) (simp length-drop (omega (arith, K.long))) (λ i h. get_or-drop to room i 0 ∙ K.behind (to + i) (omega arith) ∙ sym (get_or-drop to old i 0))

module _ {b old mid room : List ℕ} {first n k : ℕ} (first_is : first ≡ rows_at b) (n_is : n ≡ image.states b) (k_is : k ≡ image.classes b) (fits : row_at first k n ≤ length old)
    (F : Fronted b first old mid) (K : Kept mid room first (row_at first k n)) (rows : (s : ℕ) → s < n → RowStands b first k room s) where
  -- The first bytes of the room, as many as the table has.
  beginning : List ℕ
  beginning = take (row_at first k n) room

  -- A byte of them is one of the room's.
  byte_is : (i : ℕ) → i < row_at first k n → byte_at beginning i ≡ byte_at room i
  unfolding beginning
  byte_is i h = get_or-take (row_at first k n) room i 0 h

  -- So is a number.
  number_is : (i : ℕ) → i + 1 < row_at first k n → number16 beginning i ≡ number16 room i
  number_is i h = number_same beginning room i i (byte_is i (omega arith)) (byte_is (i + 1) h)

  -- The numbers of the front are those of the image.
  front_number : (i : ℕ) → i + 1 < 6 → number16 beginning i ≡ number16 b i
  front_number i h =
      number_is i (omega (arith, first_is)) ∙ number_before K i (omega (arith, first_is)) ∙ number_same mid b i i (F.front_is i (omega arith)) (F.front_is (i + 1) h)

  -- So are the classes and the bytes of the labels.
  rest_byte : (i : ℕ) → 6 + i < first → byte_at beginning (6 + i) ≡ byte_at b (12 + i)
  rest_byte i h = byte_is (6 + i) (omega arith) ∙ K.before (6 + i) h ∙ F.rest_is i h

  label_byte : (i : ℕ) → 262 + i < first → byte_at beginning (262 + i) ≡ byte_at b (268 + i)
  label_byte i h =
      let e : 6 + (256 + i) ≡ 262 + i = omega arith in
      let q : 12 + (256 + i) ≡ 268 + i = omega arith in
      rw (e, q) at (rest_byte (256 + i) (omega arith))

  -- So the numbers of the labels are those of the image.
  labels_copied : Copied b beginning 268 262 (image.states b) (image.states b + image.behind b)
  labels_copied i h =
      let e : 262 + (2 * i + 1) ≡ 262 + 2 * i + 1 = omega arith in
      let q : 268 + (2 * i + 1) ≡ 268 + 2 * i + 1 = omega arith in
      number_same beginning b (262 + 2 * i) (268 + 2 * i) (label_byte (2 * i) (omega (arith, first_is))) (rw (e, q) at (label_byte (2 * i + 1) (omega (arith, first_is))))

  -- There are as many as the table has.
  long : length beginning ≡ row_at first k n
  unfolding beginning
  long = length-take-le (row_at first k n) room (omega (arith, K.long, F.kept.long))

  -- What is read of them is what the image says.
  reads : TableReads (image.edition b) n k (image.start b) (image.class_of b) (image.labels b) (λ s c. (look (image_view b) s c).target) beginning
  unfolding table.labels table.next image.labels
  reads =
      let word : number16 beginning 0 ≡ number16 b 0 = front_number 0 (omega arith) in
      let N : table.states beginning ≡ image.states b = ap states_in_word word in
      let E : table.edition beginning ≡ image.edition b = ap edition_of word in
      let C : table.classes beginning ≡ k = front_number 2 (omega arith) ∙ sym k_is in
      record {
        long = long ∙ omega (arith, first_is, n_is, behind_same b 268 (image.states b) n (image.edition b) (image.edition b) (image.labels b) (sym n_is) refl (λ s h. refl));
        edition_is = E;
        states_is = N ∙ sym n_is;
        classes_is = C;
        start_is = front_number 4 (omega arith);
        class_is = λ x h. rest_byte x (omega (arith, first_is));
        labels_are = λ s h. labels_named beginning 262 s N E ∙ labels-moved b beginning 268 262 (image.states b) (image.edition b) labels_copied s (omega (arith, n_is));
        next_is = λ s c hs hc.
            let place : length beginning - 2 * (n * k) + 2 * (s * k + c) ≡ row_at first k s + 2 * c = omega (arith, long) in
            ap₂ (λ (x y : ℕ). number16 beginning (length beginning - 2 * (x * y) + 2 * (s * y + c))) (N ∙ sym n_is) C ∙ ap (number16 beginning) place
            ∙ number_is (row_at first k s + 2 * c) (omega (arith, row_ends first n k s hs)) ∙ rows s hs c hc;
      }

  -- They are bytes where the room is.
  bytes : Bytes room → Bytes beginning
  bytes B i = go (dec_lt i (row_at first k n))
    where
      go : Dec (i < row_at first k n) → byte_at beginning i < 256
      go (yes h) = omega (arith, byte_is i h, B i)
      go (no h) = omega (arith, get_or-eq_default beginning 0 {n = i} (omega (arith, long)))

  -- So they are the table, and the rest of the room stays.
  pub filled_table : Bytes room → room ≡ filled (table_of b) old
  unfolding table_of beginning
  filled_table B =
      let made : table_of b ≡ beginning =
      ap₂ (λ (x y : ℕ). table_from (image.edition b) x y (image.start b) (image.class_of b) (image.labels b) (λ s c. (look (image_view b) s c).target)) (sym n_is) (sym k_is)
      ∙ table_back (image.edition b) n k (image.start b) (image.class_of b) (image.labels b) (λ s c. (look (image_view b) s c).target) beginning (bytes B) reads in
      let whole : Kept old room 0 (row_at first k n) = kept_then 0 (row_at first k n) F.kept K (omega arith) (omega arith) (omega arith) (omega arith) in
      let size : length (table_of b) ≡ row_at first k n = ap length made ∙ long in
      sym (take-append-drop (row_at first k n) room) ∙ ap₂ ◌++◌ (sym made) (drop-kept whole ∙ ap (λ (x : ℕ). drop x old) (sym size))
