-- A state's entries as a part of the image.
use mathlib.Core.Path.{◌≡◌, ap, ◌∙◌}
use mathlib.Core.List.{List}
use Prim.Native.Nat.{ℕ, ◌+◌, ◌*◌, ◌-◌, ◌≤◌, ◌<◌}
use native.Mathlib.Omega.{arith}
use lib.ListN.{length, take, drop, get_or, length-take, length-drop}
use Rattle.paper.specs.Words.{number16}
use Rattle.paper.specs.View.{stored}
use Rattle.paper.specs.Image.{states, count, entry_at, entries_part_of, image_view}
use Rattle.image.specs.Forms.{stored_in_of}
use Rattle.image.specs.Laid.{Laid, Begins}
use Rattle.image.proofs.Places.{Between, places_between, places_part, number_part}
use Rattle.image.proofs.Begins.{next_begin, begin_in}
use Rattle.image.proofs.Rows.{class_at}
use Rattle.image.proofs.Reading.{Reading, reading_stored}

module _ (b : List ℕ) (L : Laid b) (s : ℕ) (hs : s < states b) where
  -- The entries of a state end before the trailer.
  pub part_in : entry_at b s 0 + 4 * count b s + 12 ≤ length b
  part_in = omega (arith, next_begin b L s, begin_in b L (s + 1) (omega arith))

  -- A state's part has four bytes for each of its entries.
  pub part_length : length (entries_part_of b s) ≡ 4 * count b s
  unfolding entries_part_of
  part_length = simp (length-take, length-drop) (omega (arith, part_in))

  module _ (begins : List ℕ) (B : Begins b begins) where
    -- Its entries begin and end where the list of begins says.
    begin : get_or begins s 0 ≡ entry_at b s 0
    begin = B s (omega arith)

    end : get_or begins (s + 1) 0 ≡ entry_at b s 0 + 4 * count b s
    end = B (s + 1) (omega arith) ∙ next_begin b L s

    -- These places tell the part.
    pub part_between : take (get_or begins (s + 1) 0 - get_or begins s 0) (drop (get_or begins s 0) b) ≡ entries_part_of b s
    unfolding entries_part_of
    part_between = places_part b begins s (entry_at b s 0) (4 * count b s) begin end

    -- They stand in the image.
    pub between : Between b begins s
    between = places_between b begins s (entry_at b s 0) (4 * count b s) begin end (omega (arith, part_in))

-- The place of an entry, from where the entries of its state begin.
entry_place : (b : List ℕ) (s j : ℕ) → entry_at b s 0 + 4 * j ≡ entry_at b s j
unfolding entry_at
entry_place b s j = omega arith

module _ (b : List ℕ) (s j : ℕ) (h : j < count b s) where
  -- The classes of a state's part are those of the view.
  pub part_class : class_at (entries_part_of b s) j ≡ (image_view b).entry_class s j
  unfolding entries_part_of
  part_class = number_part b (4 * count b s) (entry_at b s 0) (4 * j) (omega arith) ∙ ap (number16 b) (entry_place b s j)

  -- So are its next states.
  pub part_next : number16 (entries_part_of b s) (4 * j + 2) ≡ (image_view b).entry_next s j
  unfolding entries_part_of
  part_next =
      let place : entry_at b s 0 + (4 * j + 2) ≡ entry_at b s j + 2 = omega (arith, entry_place b s j) in
      number_part b (4 * count b s) (entry_at b s 0) (4 * j + 2) (omega arith) ∙ ap (number16 b) place

-- A state's part reads as the state's entries.
pub part_reading : (b : List ℕ) → Laid b → (s : ℕ) → s < states b → Reading (image_view b) s (entries_part_of b s)
part_reading b L s hs = record { sized = part_length b L s hs; classes_are = part_class b s; nexts_are = part_next b s }

-- It stores what the state stores.
pub part_stored : (b : List ℕ) → Laid b → (s : ℕ) → s < states b → (c : ℕ) → stored_in_of (entries_part_of b s) c ≡ stored (image_view b) s c
part_stored b L s hs = reading_stored (part_reading b L s hs)
