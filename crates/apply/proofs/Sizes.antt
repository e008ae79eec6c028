-- How long the records and entries of an image with a patch are, and that they are few.
use mathlib.Core.Path.{◌≡◌}
use mathlib.Core.List.{List}
use Prim.Native.Nat.{ℕ, ◌+◌, ◌*◌, ◌≤◌, ◌<◌}
use native.Mathlib.Nat.{mul-le-mul}
use native.Mathlib.Numerals.{add-one}
use native.Mathlib.Omega.{arith}
use lib.ListN.{length}
use Rattle.paper.specs.Below.{each, sum}
use Rattle.paper.specs.View.{View}
use Rattle.paper.specs.Image as image
use Rattle.paper.specs.Results.{record_bytes, entry_bytes}
use Rattle.paper.specs.Patch as patch
use Rattle.paper.specs.Patch.{listed_states, entries, patched_view}
use Rattle.paper.proofs.Sums.{sum_bound}
use Rattle.facts.proofs.ImageFacts.{image_few_labels}
use Rattle.facts.proofs.PatchFacts.{AcceptedPatch, counts_few}
use Rattle.trips.proofs.Spans.{length-each}
use Rattle.trips.proofs.ImageParts.{record_place, row_place, record_wide, row_wide}

-- A record takes 4 bytes, and n of them 4n.
pub record_size : (v : View) (s : ℕ) → length (record_bytes v s) ≡ 4
record_size v s = omega (arith, record_wide v 0 s)

pub records_size : (v : View) (n : ℕ) → length (each n (record_bytes v)) ≡ 4 * n
records_size v n = omega (arith, length-each (record_bytes v) (record_place v 0) (record_wide v 0) n)

-- The entries of a state take 4 bytes each, and so do those of n.
pub row-size : (v : View) (s : ℕ) → length (entry_bytes v s) ≡ 4 * v.count s
row-size v s = omega (arith, row_wide v 0 s)

pub rows-size : (v : View) (n : ℕ) → length (each n (entry_bytes v)) ≡ 4 * sum n v.count
rows-size v n = omega (arith, length-each (entry_bytes v) (row_place v 0) (row_wide v 0) n)

-- One count more.
pub sum_more : (f : ℕ → ℕ) (s total c : ℕ) → total ≡ sum s f → c ≡ f s → total + c ≡ sum (s + 1) f
sum_more f s total c e q = rw (add-one s, e, q)

module _ {b x : List ℕ} (A : AcceptedPatch b x) where
  -- There are at most 512 times 256 entries, in the image with the patch.
  pub total_few : sum (image.states b) (patched_view b x).count ≤ 131072
  total_few =
      omega (arith, sum_bound (image.states b) (image.classes b) (patched_view b x).count A.right.few, mul-le-mul A.accepted.few_states A.accepted.few_classes)

  -- The states and the listed states are few, and so are the entries of both.
  pub few : (image.states b ≤ 512) × (listed_states x ≤ 64) × (image.entries b ≤ 131072) × (entries x ≤ 16384)
  few = (
    A.accepted.few_states,
    A.few_listed,
    omega (arith, A.accepted.not_many, mul-le-mul A.accepted.few_states A.accepted.few_classes),
    omega (arith, A.counted, sum_bound (listed_states x) 256 (patch.count x) (λ i h. omega (arith, counts_few b x A.right A.rises A.below i h, A.accepted.few_classes)), A.few_listed),
  )

  -- The records stand in the image, behind its labels,
  pub long_image : (image.records_at_of b + 4 * image.states b + 12 ≤ length b) × (length b ≤ 600000)
  long_image = let (n, _, m, _) = few in (omega (arith, A.accepted.long), omega (arith, A.accepted.long, n, m, image_few_labels b A.accepted))

  -- and in the patch, behind its listed states.
  pub long_patch : (patch.records_at_of x + 4 * listed_states x + 12 ≤ length x) × (length x ≤ 600000)
  long_patch = let (_, p, _, q) = few in (omega (arith, A.long), omega (arith, A.long, p, q))
