-- The entries of a listed state as a part of the patch, and where an entry of it stands in the patch.
use mathlib.Core.Path.{◌≡◌, ap, ◌∙◌}
use mathlib.Core.List.{List}
use Prim.Native.Nat.{ℕ, ◌+◌, ◌*◌, ◌-◌, ◌/◌, ◌≤◌, ◌<◌}
use native.Mathlib.Omega.{arith}
use lib.ListN.{length, take, drop, get_or, length-take, length-drop}
use Rattle.paper.specs.Words.{number16}
use Rattle.paper.specs.Patch.{count, entry_at, entries_part_of}
use Rattle.image.proofs.Places.{Between, places_between, places_part, number_part}
use Rattle.patch.specs.Shaped.{Counts, PatchBegins}
use Rattle.patch.proofs.Begins.{next_begin, begin_in}

module _ {x : List ℕ} {p q : ℕ} (C : Counts x p q) (i : ℕ) (hi : i < p) where
  -- The entries of a listed state end before the trailer.
  pub part_in : entry_at x i 0 + 4 * count x i + 12 ≤ length x
  part_in = omega (arith, next_begin C i, begin_in C (i + 1) (omega arith))

  -- Its part has four bytes for each of them.
  pub part_length : length (entries_part_of x i) / 4 ≡ count x i
  unfolding entries_part_of
  part_length = let l : length (entries_part_of x i) ≡ 4 * count x i = simp (length-take, length-drop) (omega (arith, part_in)) in omega (arith, l)

  module _ (begins : List ℕ) (B : PatchBegins x p begins) where
    -- Its entries begin and end where the list of begins says.
    begin : get_or begins i 0 ≡ entry_at x i 0
    begin = B i (omega arith)

    end : get_or begins (i + 1) 0 ≡ entry_at x i 0 + 4 * count x i
    end = B (i + 1) (omega arith) ∙ next_begin C i

    -- These places stand in the patch.
    pub between : Between x begins i
    between = places_between x begins i (entry_at x i 0) (4 * count x i) begin end (omega (arith, part_in))

    -- They tell the part.
    pub part_between : take (get_or begins (i + 1) 0 - get_or begins i 0) (drop (get_or begins i 0) x) ≡ entries_part_of x i
    unfolding entries_part_of
    part_between = places_part x begins i (entry_at x i 0) (4 * count x i) begin end

module _ (x : List ℕ) (i j : ℕ) where
  -- The place of an entry, from where the entries of its state begin.
  pub entry_place : entry_at x i 0 + 4 * j ≡ entry_at x i j
  unfolding entry_at
  entry_place = omega arith

  module _ (h : j < count x i) where
    -- Its class in the part is that in the patch.
    pub part_class : number16 (entries_part_of x i) (4 * j) ≡ number16 x (entry_at x i j)
    unfolding entries_part_of
    part_class = number_part x (4 * count x i) (entry_at x i 0) (4 * j) (omega arith) ∙ ap (number16 x) entry_place

    -- So is its next state.
    pub part_next : number16 (entries_part_of x i) (4 * j + 2) ≡ number16 x (entry_at x i j + 2)
    unfolding entries_part_of
    part_next =
        let place : entry_at x i 0 + (4 * j + 2) ≡ entry_at x i j + 2 = omega (arith, entry_place) in
        number_part x (4 * count x i) (entry_at x i 0) (4 * j + 2) (omega arith) ∙ ap (number16 x) place
