-- An accepted image cut short: what is left is refused with 1 where it has fewer than 24 bytes, and else with 3, as it keeps the counts.
use mathlib.Core.Path.{◌≡◌}
use mathlib.Core.Bool.{Bool, false, ◌||◌}
use mathlib.Core.Logic.{◌≢◌}
use mathlib.Core.List.{List}
use Prim.Native.Nat.{ℕ, ◌+◌, ◌*◌, ◌≤◌, ◌<◌}
use native.Mathlib.Decide.{dec_le}
use native.Mathlib.Omega.{arith}
use lib.ListN.{length, take}
use lib.Seq.{length-take-le}
use borrow.Author.Tests.{lt-ltb, le-ltb, ne_eqb}
use Rattle.paper.specs.Below.{outside}
use Rattle.paper.specs.Words.{number16}
use Rattle.paper.specs.Labels.{labels_behind, counts_bad_of}
use Rattle.paper.specs.Image.{edition, states, classes, entries, behind, image_length_of, image_grounds}
use Rattle.paper.specs.Operations.{judge_image_of}
use Rattle.facts.proofs.ImageFacts.{accepted_image, image_clear}
use Rattle.damage.proofs.Cut.{number16-take, number32-take, behind-take, counts-take}

-- The number of states, of classes or of entries is out of range.
abbrev range_bad : List ℕ → Bool
range_bad b = outside 1 512 (states b) || (outside 1 256 (classes b) || outside (classes b) (states b * classes b) (entries b))

-- Of an accepted image none is, and no count of labels is above 16.
counts-right : (b : List ℕ) → judge_image_of b ≡ 0 → (range_bad b ≡ false) × (counts_bad_of b 268 (states b) (edition b) ≡ false)
unfolding image_grounds
counts-right b e = let c = image_clear b (accepted_image b e) in (c.1.0, c.1.1.0)

-- Fewer than 24 bytes are refused with 1.
short_refused : (b : List ℕ) → length b < 24 → judge_image_of b ≡ 1
unfolding judge_image_of image_grounds
short_refused b h = rw (lt-ltb (length b) 24 h)

-- At least 24 bytes with counts in range that do not give the length are refused with 3.
length_refused : (b : List ℕ) → 24 ≤ length b → range_bad b ≡ false → counts_bad_of b 268 (states b) (edition b) ≡ false
    → length b ≢ image_length_of (states b) (entries b) (behind b) → judge_image_of b ≡ 3
unfolding judge_image_of image_grounds
length_refused b h r c d = rw (le-ltb (length b) 24 h, r, c, ne_eqb (length b) (image_length_of (states b) (entries b) (behind b)) d)

-- A beginning of at least 12 bytes has the first word and the counts of the whole.
counts_same : (p : ℕ) (b : List ℕ) → 12 ≤ p → (number16 (take p b) 0 ≡ number16 b 0) × (classes (take p b) ≡ classes b) × (entries (take p b) ≡ entries b)
counts_same p b h = (number16-take p b 0 (omega arith), number16-take p b 2 (omega arith), number32-take p b 8 (omega arith))

-- A beginning of fewer than 24 bytes is refused with 1.
pub prefix_gives_1 : (b : List ℕ) (p : ℕ) → p < length b → p < 24 → judge_image_of (take p b) ≡ 1
prefix_gives_1 b p l h = short_refused (take p b) (rw (length-take-le p b (omega arith)) h)

-- A proper beginning is too short for what it gives: for the counts of labels, or for the length, which is then that of the whole.
too_short : (b : List ℕ) (p : ℕ) → length b ≡ image_length_of (states b) (entries b) (behind b) → p < length b
    → p ≢ image_length_of (states b) (entries b) (labels_behind (take p b) 268 (states b) (edition b))
too_short b p long l q = go (dec_le (268 + 2 * states b) p)
  where
    go : Dec (268 + 2 * states b ≤ p) → ⊥
    go (yes h) = omega (arith, behind-take p b 268 (states b) (edition b) h)
    go (no h) = omega arith

-- Any other proper beginning of an accepted image is refused with 3.
pub prefix_gives_3 : (b : List ℕ) (p : ℕ) → judge_image_of b ≡ 0 → p < length b → 24 ≤ p → judge_image_of (take p b) ≡ 3
prefix_gives_3 b p e l h =
    let (w, k, m) = counts_same p b (omega arith) in
    let cut = length-take-le p b (omega arith) in
    let (range, counts) = counts-right b e in
    length_refused (take p b) (rw cut h) (rw (w, k, m) range) (rw w (counts-take p b 268 (states b) (edition b) (omega arith) counts))
    (rw (w, m, cut) (too_short b p (accepted_image b e).long l))
