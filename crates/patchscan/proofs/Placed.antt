-- The rows that were opened tell where the entries of each state stand, and the part that is cut there reads as the state's entries.
use mathlib.Core.Path.{◌≡◌, ap, subst, ◌∙◌}
use mathlib.Core.List.{List}
use Prim.Native.Nat.{ℕ, zero, suc, ◌+◌, ◌*◌, ◌-◌, ◌<◌}
use native.Mathlib.Omega.{arith}
use lib.ListN.{take, drop, length-take, length-drop}
use Rattle.paper.specs.Words.{number16}
use Rattle.paper.specs.View.{View}
use Rattle.paper.specs.Image.{states}
use Rattle.paper.specs.Patch.{patched_view}
use Rattle.image.proofs.Reading.{Reading}
use Rattle.abreast.specs.Keeps.{Above, Cursor, Stands}
use Rattle.abreast.specs.Opened.{Opened}
use Rattle.image.proofs.Places.{number_part}
use Rattle.overlaid.specs.Chosen.{bytes_of}
use Rattle.patchscan.specs.Placed.{PlacedRow, PlacedRows}

-- Before the first class a cursor stands before the first entry.
cursor_first : {v : View} {s : ℕ} (j : ℕ) → Cursor v 0 s j → j ≡ 0
cursor_first zero C = omega arith
cursor_first (suc j) C = absurd (omega (arith, C.under 0 (omega arith)))

-- So all entries of the state stand where they wait.
stands_placed : {b x : List ℕ} {s at left class : ℕ} → Stands (patched_view b x) (bytes_of b x s) 0 s at left class → PlacedRow b x s at left
stands_placed {b} {x} {s} S =
    let none = cursor_first S.entry S.cursor in
    let there : (i : ℕ) → S.entry + i ≡ i = λ i. omega (arith, none) in
    record {
      count_is = omega (arith, S.left_is, none);
      inside = S.inside;
      small = S.small;
      reads_class = λ i h. S.reads_class i h ∙ ap ((patched_view b x).entry_class s) (there i);
      reads-next = λ i h. S.reads-next i h ∙ ap ((patched_view b x).entry_next s) (there i);
    }

-- So it is for all states.
pub opened_placed : {b x up place left wait : List ℕ} {n : ℕ} → Opened (patched_view b x) (bytes_of b x) n up place left wait → n ≡ states b → PlacedRows b x place left
opened_placed O e s h = stands_placed (O.stands s (omega (arith, e)))

-- They tell the row that each state falls from too.
pub opened_above : (b x : List ℕ) {up place left wait : List ℕ} {n : ℕ} → Opened (patched_view b x) (bytes_of b x) n up place left wait → n ≡ states b → Above (patched_view b x) (states b) up
opened_above b x {up} O e = subst (λ (n : ℕ). Above (patched_view b x) n up) e O.above

module _ {b x : List ℕ} {s at left : ℕ} (P : PlacedRow b x s at left) where
  -- The part of the state's bytes.
  abbrev part : List ℕ
  part = take (4 * left) (drop at (bytes_of b x s))

  -- It reads as the state's entries.
  part_reading : Reading (patched_view b x) s part
  part_reading =
      record {
        sized = simp (length-take, length-drop) (omega (arith, P.inside, P.count_is));
        classes_are = λ j h.
            let l : j < left = omega (arith, P.count_is) in
            number_part (bytes_of b x s) (4 * left) at (4 * j) (omega arith) ∙ P.reads_class j l;
        nexts_are = λ j h.
            let l : j < left = omega (arith, P.count_is) in
            let place : at + (4 * j + 2) ≡ at + 4 * j + 2 = omega arith in
            number_part (bytes_of b x s) (4 * left) at (4 * j + 2) (omega arith) ∙ ap (number16 (bytes_of b x s)) place ∙ P.reads-next j l;
      }

  -- So does what is cut between its begin and its end from the same bytes by another name.
  pub cut_reading : (bytes : List ℕ) → bytes ≡ bytes_of b x s → Reading (patched_view b x) s (take (at + 4 * left - at) (drop at bytes))
  cut_reading bytes e =
      let size : at + 4 * left - at ≡ 4 * left = omega arith in
      rw (e, size) part_reading
