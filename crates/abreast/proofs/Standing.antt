-- The entries that wait for the two classes are those of the view, and after a turn those of the next two wait.
use mathlib.Core.Path.{◌≡◌, ap, ◌∙◌}
use mathlib.Core.List.{List}
use Prim.Native.Nat.{ℕ, suc, ◌+◌, ◌-◌, ◌*◌, ◌≤◌, ◌<◌}
use native.Mathlib.Decide.{ℕ_discrete, dec_lt}
use native.Mathlib.Nat.{zero-add}
use native.Mathlib.Omega.{arith}
use lib.ListN.{length}
use Rattle.paper.specs.Words.{number16}
use Rattle.paper.specs.View.{View}
use Rattle.paper.proofs.Rising.{Rises, ahead}
use Rattle.abreast.specs.Laid.{head_class_of, class_in_of, next_in, Waits}
use Rattle.abreast.specs.Keeps.{Cursor, Stands}
use Rattle.abreast.proofs.Cursors.{cursor_start}

-- All entries of a state wait where the first of them stands.
pub stands_first : {v : View} {b : List ℕ} {s at left class : ℕ} → left ≡ v.count s → at + 4 * left ≤ length b → length b < 600000
    → ((i : ℕ) → i < left → class_in_of b at i ≡ v.entry_class s i) → ((i : ℕ) → i < left → next_in b at i ≡ v.entry_next s i) → class ≡ head_class_of b at left → class < 65536
    → Stands v b 0 s at left class
stands_first {v} {s = s} many inside short class_reads next-reads head below =
    record {
      entry = 0;
      cursor = cursor_start v s;
      left_is = omega (arith, many);
      inside = inside;
      small = short;
      reads_class = λ i h. rw (zero-add i) (class_reads i h);
      reads-next = λ i h. rw (zero-add i) (next-reads i h);
      class_is = head;
      class_small = below;
    }

module _ {v : View} {b : List ℕ} {first s at left class : ℕ} (up : Rises (v.entry_class s) (v.count s)) (S : Stands v b first s at left class) where
  -- The entry that a waiting one is.
  entry_in : (i : ℕ) → i < left → S.entry + i < v.count s
  entry_in i h = omega (arith, S.left_is)

  -- The classes of those that wait rise, and are not below the first.
  pub stands_waits : Waits b at first left
  stands_waits =
      record {
        inside = S.inside;
        small = S.small;
        rises = λ j h.
            let l : S.entry + j < S.entry + suc j = omega arith in
            omega (arith, S.reads_class j (omega arith), S.reads_class (suc j) h, ahead (v.entry_class s) (v.count s) up (S.entry + j) (S.entry + suc j) l (entry_in (suc j) h));
        from = λ i h. omega (arith, S.reads_class i h, S.cursor.over (S.entry + i) (omega arith) (entry_in i h));
      }

  module _ (count : ℕ) (within : count ≤ left) (past : count < left → first + 2 ≤ class_in_of b at count) (two : (i : ℕ) → i < count → class_in_of b at i < first + 2) where
    -- An entry of the view that is of the two classes waits, among the first so many.
    pub waits_among : (j : ℕ) → j < v.count s → first ≤ v.entry_class s j → v.entry_class s j < first + 2 → (S.entry ≤ j) × (j - S.entry < count)
    waits_among j h from below = (here, go (dec_lt (j - S.entry) count))
      where
        here : S.entry ≤ j
        here = case (dec_lt j S.entry)
          where
            case : Dec (j < S.entry) → S.entry ≤ j
            case (yes l) = absurd (omega (arith, S.cursor.under j l))
            case (no l) = omega arith

        go : Dec (j - S.entry < count) → j - S.entry < count
        go (yes l) = l
        go (no l) =
            let more : count < left = omega (arith, S.left_is, here) in
            absurd (omega (arith, past more, S.reads_class count more, later (ℕ_discrete (S.entry + count) j)))
          where
            later : Dec (S.entry + count ≡ j) → v.entry_class s (S.entry + count) ≤ v.entry_class s j
            later (yes e) = omega (arith, ap (v.entry_class s) e)
            later (no e) = omega (arith, ahead (v.entry_class s) (v.count s) up (S.entry + count) j (omega (arith, here)) h)

    -- Behind them stands the cursor for the next two classes.
    pub cursor_next : Cursor v (first + 2) s (S.entry + count)
    cursor_next =
        record {
          within = omega (arith, S.left_is, S.cursor.within);
          under = λ i l. before i l (dec_lt i S.entry);
          over = λ i l h. behind i l h (ℕ_discrete i (S.entry + count));
        }
      where
        before : (i : ℕ) → i < S.entry + count → Dec (i < S.entry) → v.entry_class s i < first + 2
        before i l (yes u) = omega (arith, S.cursor.under i u)
        before i l (no u) =
            let e : S.entry + (i - S.entry) ≡ i = omega arith in
            omega (arith, two (i - S.entry) (omega arith), S.reads_class (i - S.entry) (omega arith), ap (v.entry_class s) e)

        at_count : S.entry + count < v.count s → first + 2 ≤ v.entry_class s (S.entry + count)
        at_count h = let more : count < left = omega (arith, S.left_is) in omega (arith, past more, S.reads_class count more)

        behind : (i : ℕ) → S.entry + count ≤ i → i < v.count s → Dec (i ≡ S.entry + count) → first + 2 ≤ v.entry_class s i
        behind i l h (yes e) = let q = ap (v.entry_class s) e in omega (arith, at_count (omega arith), q)
        behind i l h (no e) = omega (arith, at_count (omega arith), ahead (v.entry_class s) (v.count s) up (S.entry + count) i (omega arith) h)

    -- Their place, count and class.
    pub stands_next : (class' : ℕ) → class' ≡ head_class_of b (at + 4 * count) (left - count) → class' < 65536 → Stands v b (first + 2) s (at + 4 * count) (left - count) class'
    stands_next class' e small =
        record {
          entry = S.entry + count;
          cursor = cursor_next;
          left_is = omega (arith, S.left_is);
          inside = omega (arith, S.inside);
          small = S.small;
          reads_class = λ i h.
              let p : at + 4 * count + 4 * i ≡ at + 4 * (count + i) = omega arith in
              let q : S.entry + (count + i) ≡ S.entry + count + i = omega arith in
              ap (number16 b) p ∙ S.reads_class (count + i) (omega arith) ∙ ap (v.entry_class s) q;
          reads-next = λ i h.
              let p : at + 4 * count + 4 * i + 2 ≡ at + 4 * (count + i) + 2 = omega arith in
              let q : S.entry + (count + i) ≡ S.entry + count + i = omega arith in
              ap (number16 b) p ∙ S.reads-next (count + i) (omega arith) ∙ ap (v.entry_next s) q;
          class_is = e;
          class_small = small;
        }
