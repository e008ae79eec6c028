-- Where the entries of each state begin, and how the list of these places is filled.
use mathlib.Core.Path.{◌≡◌, ◌∙◌}
use mathlib.Core.List.{List}
use Prim.Native.Nat.{ℕ, ◌+◌, ◌*◌, ◌≤◌, ◌<◌}
use native.Mathlib.Numerals.{add-one}
use native.Mathlib.Omega.{arith}
use lib.ListN.{length, set}
use Rattle.paper.specs.Words.{number16}
use Rattle.paper.specs.Image.{states, behind, entries_at, records_at_of, count, entry_at}
use Rattle.paper.proofs.Sums.{sum_up}
use Rattle.image.specs.Laid.{Laid, Begins}
use Rattle.image.proofs.Places.{Begun, places_start, places_more, places_done}

module _ (b : List ℕ) (L : Laid b) where
  -- The records stand behind the labels.
  pub records_before : records_at_of b ≡ 268 + 2 * states b + 2 * behind b
  records_before = omega (arith, L.long)

  -- The entries stand behind the records.
  pub entries-behind : entries_at b ≡ records_at_of b + 4 * states b
  entries-behind = omega (arith, L.long)

  -- The entries of the next state begin behind those of a state.
  pub next_begin : (s : ℕ) → entry_at b (s + 1) 0 ≡ entry_at b s 0 + 4 * count b s
  unfolding entry_at
  next_begin s = rw (add-one s) (omega arith)

  -- They all stand before the trailer.
  pub begin_in : (s : ℕ) → s ≤ states b → entry_at b s 0 + 12 ≤ length b
  unfolding entry_at
  begin_in s h = omega (arith, sum_up s (states b) (count b) h, L.counted, L.long)

-- Records, entries and trailer fit in the image, and all numbers are small.
pub record Sizes (b : List ℕ) (n records : ℕ) : Type 0 where
  pub few_states : n ≤ 512
  pub room : records + 4 * n + 12 ≤ length b
  pub short : length b ≤ 600000

module _ (b : List ℕ) (L : Laid b) (n records : ℕ) (n_is : n ≡ states b) (records_is : records ≡ records_at_of b) where
  -- So it is with the image's own counts.
  pub sizes : Sizes b n records
  sizes =
      record {
        few_states = omega (arith, L.few_states);
        room = omega (arith, L.long);
        short = omega (arith, L.long, L.few_states, L.few_entries, L.few_labels);
      }

  -- The list of places has room for all, and they stand before the trailer.
  room : n < 513
  room = omega (arith, sizes.few_states)

  inside : (s : ℕ) → s ≤ n → entry_at b s 0 + 12 ≤ length b
  inside s h = begin_in b L s (omega (arith, n_is))

  -- No place is filled at the start.
  pub begun-start : (begins : List ℕ) → length begins ≡ 513 → Begun (λ q. entry_at b q 0) 513 (length b) n (records + 4 * n) begins 0
  unfolding entry_at
  begun-start begins l = places_start (λ q. entry_at b q 0) room inside (records + 4 * n) begins (omega (arith, entries-behind b L)) l

  module _ (at : ℕ) (begins : List ℕ) (s : ℕ) (g : Begun (λ q. entry_at b q 0) 513 (length b) n at begins s) where
    -- One place more is filled in each turn.
    pub begun_more : s < n → (c : ℕ) → c ≡ number16 b (records + 4 * s + 2) → Begun (λ q. entry_at b q 0) 513 (length b) n (at + 4 * c) (set begins s at) (s + 1)
    unfolding count
    begun_more h c e =
        let e' : c ≡ number16 b (records_at_of b + 4 * s + 2) = e ∙ rw records_is in
        places_more (λ q. entry_at b q 0) room inside g h (at + 4 * c) (omega (arith, g.at_is, next_begin b L s, e'))

    -- In the end all are, with the place behind the last.
    pub begun_done : n ≤ s → Begins b (set begins n at)
    begun_done h q hq = places_done (λ q. entry_at b q 0) room inside g h q (omega (arith, n_is))
