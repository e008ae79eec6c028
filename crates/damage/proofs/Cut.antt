-- The first bytes of a list: the numbers in them are those of the whole, and so are the counts of labels where they hold all counts.
use mathlib.Core.Path.{◌≡◌, refl, ◌∙◌}
use mathlib.Core.Bool.{false, and-false}
use mathlib.Core.List.{List}
use Prim.Native.Nat.{ℕ, ◌+◌, ◌*◌, ◌≤◌, ◌<◌}
use native.Mathlib.Decide.{dec_le}
use native.Mathlib.Omega.{arith}
use lib.Dec.{ltb}
use lib.ListN.{length, take}
use lib.Seq.{length-take-le, get_or-take}
use borrow.Author.Tests.{le-leb, lt-leb}
use Rattle.paper.specs.Below.{any}
use Rattle.paper.specs.Words.{number16, number32}
use Rattle.paper.specs.Labels.{Edition, one, two, label_count, labels_behind, counts_bad_of}
use Rattle.paper.proofs.Below.{any_same}
use Rattle.paper.proofs.Sums.{sum_same}

-- A number of 16 bits in the first bytes is one of the whole.
pub number16-take : (p : ℕ) (b : List ℕ) (at : ℕ) → at + 1 < p → number16 (take p b) at ≡ number16 b at
unfolding number16
number16-take p b at h = rw (get_or-take p b at 0 (omega arith), get_or-take p b (at + 1) 0 h)

-- A number of 32 bits in the first bytes is one of the whole.
pub number32-take : (p : ℕ) (b : List ℕ) (at : ℕ) → at + 2 + 1 < p → number32 (take p b) at ≡ number32 b at
unfolding number32
number32-take p b at h = rw (number16-take p b at (omega arith), number16-take p b (at + 2) h)

module _ (p : ℕ) (b : List ℕ) (place n : ℕ) where
  -- Where the first bytes hold all counts of labels, these are those of the whole.
  count-take : place + 2 * n ≤ p → (s : ℕ) → s < n → label_count (take p b) place s ≡ label_count b place s
  unfolding label_count
  count-take h s hs = number16-take p b (place + 2 * s) (omega arith)

  -- Then as many labels stand behind them as in the whole.
  pub behind-take : (e : Edition) → place + 2 * n ≤ p → labels_behind (take p b) place n e ≡ labels_behind b place n e
  unfolding labels_behind
  behind-take one h = refl
  behind-take two h = sum_same n (label_count (take p b) place) (label_count b place) (count-take h)

  -- Where no count of the whole is above 16, none is in the first bytes, or these end inside the counts.
  pub counts-take : (e : Edition) → p ≤ length b → counts_bad_of b place n e ≡ false → counts_bad_of (take p b) place n e ≡ false
  counts-take one hp g = refl
  counts-take two hp g = go (dec_le (place + 2 * n) p)
    where
      go : Dec (place + 2 * n ≤ p) → counts_bad_of (take p b) place n two ≡ false
      go (yes h) =
          let whole : any n (λ s. ltb 16 (label_count b place s)) ≡ false = rw (le-leb (place + 2 * n) (length b) (omega arith)) at g in
          let none = any_same n (λ s. ltb 16 (label_count (take p b) place s)) (λ s. ltb 16 (label_count b place s)) (λ s hs. rw (count-take h s hs) refl) ∙ whole in
          rw (none, and-false)
      go (no h) = rw (length-take-le p b hp, lt-leb (place + 2 * n) p (omega arith))
