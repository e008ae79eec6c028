-- Where the entries of each listed state begin, and how the list of these places is filled.
use mathlib.Core.Path.{◌≡◌, ◌∙◌}
use mathlib.Core.List.{List}
use Prim.Native.Nat.{ℕ, ◌+◌, ◌*◌, ◌≤◌, ◌<◌}
use native.Mathlib.Numerals.{add-one}
use native.Mathlib.Omega.{arith}
use lib.ListN.{length, set}
use Rattle.paper.specs.Words.{number16}
use Rattle.paper.specs.Patch.{entries_at, records_at_of, count, entry_at}
use Rattle.paper.proofs.Sums.{sum_up}
use Rattle.image.proofs.Places.{Begun, places_start, places_more, places_done}
use Rattle.patch.specs.Shaped.{Shaped, Counts, PatchBegins}

module _ {x : List ℕ} {p q : ℕ} (S : Shaped x p q) where
  -- The records stand behind the listed states, the entries behind the records.
  pub records_stand : (records_at_of x + 4 * p + 4 * q + 12 ≡ length x) × (entries_at x ≡ records_at_of x + 4 * p) × (records_at_of x ≡ 10 + 2 * p)
  records_stand =
      (omega (arith, S.long, S.listed_are, S.entries_are), omega (arith, S.long, S.listed_are, S.entries_are), omega (arith, S.long, S.listed_are, S.entries_are))

module _ {x : List ℕ} {p q : ℕ} (C : Counts x p q) where
  -- The entries of the next listed state begin behind those of a listed state.
  pub next_begin : (i : ℕ) → entry_at x (i + 1) 0 ≡ entry_at x i 0 + 4 * count x i
  unfolding entry_at
  next_begin i = rw (add-one i) (omega arith)

  -- They all stand before the trailer.
  pub begin_in : (i : ℕ) → i ≤ p → entry_at x i 0 + 12 ≤ length x
  unfolding entry_at
  begin_in i h = omega (arith, sum_up i p (count x) h, C.counted, records_stand C.shaped)

  -- Those of the first begin behind the records.
  pub first_begin : records_at_of x + 4 * p ≡ entry_at x 0 0
  unfolding entry_at
  first_begin = omega (arith, records_stand C.shaped)

module _ {x : List ℕ} {p q : ℕ} (C : Counts x p q) where
  -- The list of places has room for all.
  room : p < 65
  room = omega (arith, C.shaped.few)

  -- No place is filled at the start.
  pub begun-start : (records : ℕ) (begins : List ℕ) → records ≡ records_at_of x → length begins ≡ 65 → Begun (λ i. entry_at x i 0) 65 (length x) p (records + 4 * p) begins 0
  begun-start records begins e l = places_start (λ i. entry_at x i 0) room (begin_in C) (records + 4 * p) begins (omega (arith, e, first_begin C)) l

  module _ {at : ℕ} {begins : List ℕ} {i : ℕ} (g : Begun (λ i. entry_at x i 0) 65 (length x) p at begins i) where
    -- One place more is filled in each turn.
    pub begun_more : i < p → (c records : ℕ) → records ≡ records_at_of x → c ≡ number16 x (records + 4 * i + 2) → Begun (λ i. entry_at x i 0) 65 (length x) p (at + 4 * c) (set begins i at) (i + 1)
    unfolding count
    begun_more h c records e w =
        let w' : c ≡ number16 x (records_at_of x + 4 * i + 2) = w ∙ rw e in
        places_more (λ i. entry_at x i 0) room (begin_in C) g h (at + 4 * c) (omega (arith, g.at_is, next_begin C i, w'))

    -- In the end all are, with the place behind the last.
    pub begun_done : p ≤ i → PatchBegins x p (set begins p at)
    begun_done h = places_done (λ i. entry_at x i 0) room (begin_in C) g h
