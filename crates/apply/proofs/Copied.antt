-- Runs of records and entries, as they stand in the image or in the patch, are those of the view of both.
use mathlib.Core.Path.{◌≡◌, refl, sym, ap, ◌∙◌}
use mathlib.Core.List.{List, ◌++◌}
use mathlib.Core.Option.{none}
use Prim.Native.Nat.{ℕ, zero, suc, ◌+◌, ◌-◌, ◌*◌, ◌≤◌, ◌<◌}
use native.Mathlib.Omega.{arith}
use lib.ListN.{length, take, drop, length-append}
use Rattle.paper.specs.Below.{each}
use Rattle.paper.specs.Words.{number16, bytes16, Bytes}
use Rattle.paper.specs.View.{View}
use Rattle.paper.specs.Image as image
use Rattle.paper.specs.Results.{record_bytes, entry_bytes}
use Rattle.paper.specs.Patch as patch
use Rattle.paper.specs.Patch.{listed_states, state_at_of, listed_at, patched_view}
use Rattle.facts.proofs.Listed.{listed_there}
use Rattle.paper.proofs.Sums.{sum_up}
use Rattle.facts.proofs.PatchFacts.{AcceptedPatch, count-listed}
use Rattle.trips.proofs.Spans.{Spans, spans_each, spans_move, part_taken, length-each}
use Rattle.trips.proofs.Numbers.{back_pair}
use Rattle.trips.proofs.Labels.{default_number}
use Rattle.image.proofs.Accepted.{accepted_laid}
use Rattle.image.proofs.Begins.{next_begin, begin_in}
use Rattle.patch.proofs.Begins as own
use Rattle.patch.proofs.FromAccepted.{counts}
use Rattle.apply.proofs.Sizes.{record_size, row-size}
use Rattle.apply.proofs.Runs.{run}

-- A run of records takes 4 bytes each.
pub records_wide : (v : View) (i k : ℕ) → length (run (record_bytes v) i k) ≡ 4 * k
records_wide v i k = omega (arith, length-each (λ t. record_bytes v (i + t)) (λ t. 4 * t) (λ t. omega (arith, record_size v (i + t))) k)

-- Pairs of numbers from a place on, in bytes, stand there as they are read.
pairs_stand : (c : List ℕ) → Bytes c → (at count : ℕ) (f g : ℕ → ℕ) → at + 4 * count ≤ length c → ((j : ℕ) → number16 c (at + 4 * j) ≡ f j) → ((j : ℕ) → number16 c (at + 4 * j + 2) ≡ g j)
    → Spans c at (each count (λ j. bytes16 (f j) ++ bytes16 (g j))) (at + 4 * count)
pairs_stand c B at count f g h p q =
    let pair : ℕ → List ℕ = λ j. bytes16 (f j) ++ bytes16 (g j) in
    let one : (j : ℕ) → j < count → Spans c (at + 4 * j) (pair j) (at + 4 * suc j) = λ j hj. back_pair B (at + 4 * j) (at + 4 * suc j) (omega arith) (omega arith) (p j) (q j) in
    spans_move (spans_each pair (λ j. at + 4 * j) count one) (omega arith) refl

-- They take 4 bytes each.
pairs_wide : (f g : ℕ → ℕ) (k : ℕ) → length (each k (λ j. bytes16 (f j) ++ bytes16 (g j))) ≡ 4 * k
unfolding bytes16
pairs_wide f g k = omega (arith, length-each (λ j. bytes16 (f j) ++ bytes16 (g j)) (λ j. 4 * j) (λ j. omega arith) k)

module _ (b x : List ℕ) (A : AcceptedPatch b x) (B : Bytes b) where
  -- The view of both.
  abbrev v : View
  v = patched_view b x

  -- The record of a state that the patch does not list stands in the image.
  record_stands : (s : ℕ) → s < image.states b → listed_at x s ≡ none → Spans b (image.records_at_of b + 4 * s) (record_bytes v s) (image.records_at_of b + 4 * suc s)
  unfolding record_bytes image.default image.count
  record_stands s hs e =
      rw e (back_pair B (image.records_at_of b + 4 * s) (image.records_at_of b + 4 * suc s) (omega arith) (omega (arith, A.accepted.long)) (sym (default_number (number16 b (image.records_at_of b + 4 * s)))) refl)

  -- So do its entries.
  row_stands : (s : ℕ) → s < image.states b → listed_at x s ≡ none → Spans b (image.entry_at b s 0) (entry_bytes v s) (image.entry_at b (suc s) 0)
  unfolding entry_bytes image.entry_at
  row_stands s hs e =
      let L = accepted_laid b A.accepted in
      let next : image.entry_at b s 0 + 4 * image.count b s ≡ image.entry_at b (suc s) 0 = omega arith in
      rw e
      (spans_move (pairs_stand b B (image.entry_at b s 0) (image.count b s) (λ j. number16 b (image.entry_at b s j)) (λ j. number16 b (image.entry_at b s j + 2))
      (omega (arith, begin_in b L (s + 1) (omega arith), next_begin b L s)) (λ j. ap (number16 b) (omega arith)) (λ j. ap (number16 b) (omega arith))) refl next)

  module _ (i k : ℕ) (within : i + k ≤ image.states b) (unlisted : (s : ℕ) → i ≤ s → s < i + k → listed_at x s ≡ none) where
    -- A run of records that the patch does not list.
    pub records_run : take (4 * k) (drop (image.records_at_of b + 4 * i) b) ≡ run (record_bytes v) i k
    records_run =
        let place : ℕ → ℕ = λ t. image.records_at_of b + 4 * (i + t) in
        let one : (t : ℕ) → t < k → Spans b (place t) (record_bytes v (i + t)) (place (suc t))
        = λ t h. spans_move (record_stands (i + t) (omega arith) (unlisted (i + t) (omega arith) (omega arith))) refl (omega arith) in
        let all = spans_each (λ t. record_bytes v (i + t)) place k one in
        let first : place 0 ≡ image.records_at_of b + 4 * i = omega arith in
        part_taken (4 * k) (spans_move all first refl) (records_wide v i k)

    -- The entries of such a run end where the next begin.
    pub run_wide : image.entry_at b i 0 + length (run (entry_bytes v) i k) ≡ image.entry_at b (i + k) 0
    run_wide = wide k (λ t h. unlisted (i + t) (omega arith) (omega arith))
      where
        wide : (l : ℕ) → ((t : ℕ) → t < l → listed_at x (i + t) ≡ none) → image.entry_at b i 0 + length (run (entry_bytes v) i l) ≡ image.entry_at b (i + l) 0
        wide zero free = let same : image.entry_at b i 0 ≡ image.entry_at b (i + 0) 0 = ap (λ (s : ℕ). image.entry_at b s 0) (omega arith) in omega (arith, same)
        wide (suc l) free =
            let count_same : v.count (i + l) ≡ image.count b (i + l) = rw (free l (omega arith)) in
            let next : image.entry_at b (i + l + 1) 0 ≡ image.entry_at b (i + suc l) 0 = ap (λ (s : ℕ). image.entry_at b s 0) (omega arith) in
            omega (
              arith,
              length-append (run (entry_bytes v) i l) (entry_bytes v (i + l)),
              wide l (λ t h. free t (omega arith)),
              row-size v (i + l),
              count_same,
              next,
              next_begin b (accepted_laid b A.accepted) (i + l),
            )

    -- They stand in the image.
    pub entries-run : take (image.entry_at b (i + k) 0 - image.entry_at b i 0) (drop (image.entry_at b i 0) b) ≡ run (entry_bytes v) i k
    entries-run =
        let place : ℕ → ℕ = λ t. image.entry_at b (i + t) 0 in
        let one : (t : ℕ) → t < k → Spans b (place t) (entry_bytes v (i + t)) (place (suc t))
        = λ t h. spans_move (row_stands (i + t) (omega arith) (unlisted (i + t) (omega arith) (omega arith))) refl (ap (λ (s : ℕ). image.entry_at b s 0) (omega arith)) in
        let all = spans_each (λ t. entry_bytes v (i + t)) place k one in
        let first : place 0 ≡ image.entry_at b i 0 = ap (λ (s : ℕ). image.entry_at b s 0) (omega arith) in
        part_taken (image.entry_at b (i + k) 0 - image.entry_at b i 0) (spans_move all first refl) (omega (arith, run_wide))

  -- The entries of a later state begin later, and those of the last end before the trailer.
  pub begins_up : (i j : ℕ) → i ≤ j → j ≤ image.states b → (image.entry_at b i 0 ≤ image.entry_at b j 0) × (image.entry_at b j 0 + 12 ≤ length b)
  unfolding image.entry_at
  begins_up i j h l = (omega (arith, sum_up i j (image.count b) h), begin_in b (accepted_laid b A.accepted) j l)

  module _ (X : Bytes x) (i : ℕ) (h : i < listed_states x) where
    -- The record of a listed state stands in the patch.
    pub record_listed : take 4 (drop (patch.records_at_of x + 4 * i) x) ≡ record_bytes v (state_at_of x i)
    unfolding record_bytes patch.default patch.count bytes16
    record_listed =
        let at = patch.records_at_of x + 4 * i in
        let pair : Spans x at (bytes16 (number16 x at) ++ bytes16 (number16 x (at + 2))) (at + 4) = back_pair X at (at + 4) refl (omega (arith, A.long)) refl refl in
        part_taken 4 pair refl
        ∙ rw (listed_there x A.rises i h) (ap (λ (d : ℕ). bytes16 d ++ bytes16 (number16 x (at + 2))) (sym (default_number (number16 x at))))

    -- Its entries end where the next begin.
    pub listed_wide : (patch.entry_at x i 0 + length (entry_bytes v (state_at_of x i)) ≡ patch.entry_at x (i + 1) 0) × (patch.entry_at x (i + 1) 0 + 12 ≤ length x)
    listed_wide =
        let C = counts A refl refl in
        (omega (arith, own.next_begin C i, row-size v (state_at_of x i), count-listed b x A.rises i h), own.begin_in C (i + 1) (omega arith))

    -- They stand there.
    pub entries-listed : take (patch.entry_at x (i + 1) 0 - patch.entry_at x i 0) (drop (patch.entry_at x i 0) x) ≡ entry_bytes v (state_at_of x i)
    unfolding entry_bytes patch.entry_at
    entries-listed =
        let C = counts A refl refl in
        let next : patch.entry_at x (i + 1) 0 - patch.entry_at x i 0 ≡ 4 * patch.count x i = omega (arith, own.next_begin C i) in
        let stand = pairs_stand x X (patch.entry_at x i 0) (patch.count x i) (λ j. number16 x (patch.entry_at x i j)) (λ j. number16 x (patch.entry_at x i j + 2))
        (omega (arith, own.next_begin C i, own.begin_in C (i + 1) (omega arith))) (λ j. ap (number16 x) (omega arith)) (λ j. ap (number16 x) (omega arith)) in
        rw (next, listed_there x A.rises i h) (part_taken (4 * patch.count x i) stand (pairs_wide (λ j. number16 x (patch.entry_at x i j)) (λ j. number16 x (patch.entry_at x i j + 2)) (patch.count x i)))
