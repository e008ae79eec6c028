-- The number of entries of an image with a patch: the image's and the patch's, less those that the image has for the listed states.
use mathlib.Core.Path.{◌≡◌, refl, sym, ap}
use mathlib.Core.Bool.{cond}
use mathlib.Core.List.{List}
use mathlib.Core.Option.{Option, none, some}
use Prim.Native.Nat.{ℕ, zero, suc, ◌+◌, ◌<◌}
use native.Mathlib.Decide.{dec_lt}
use native.Mathlib.Omega.{arith}
use lib.Dec.{ltb}
use borrow.Author.Tests.{lt-ltb, le-ltb}
use Rattle.paper.specs.Below.{sum}
use Rattle.paper.specs.Image as image
use Rattle.paper.specs.Patch as patch
use Rattle.paper.specs.Patch.{listed_states, state_at_of, listed_at, from_either, patched_view}
use Rattle.paper.proofs.Sums.{sum_same, sum_altered}
use Rattle.facts.proofs.Listed.{listed_some, listed_there}
use Rattle.facts.proofs.PatchFacts.{AcceptedPatch}

module _ (b x : List ℕ) where
  -- The count of a state where only the first i listed states have the patch's.
  abbrev mixed : ℕ → ℕ → Option ℕ → ℕ
  mixed i s none = image.count b s
  mixed i s (some j) = cond (ltb j i) (patch.count x j) (image.count b s)

  abbrev counts_to : ℕ → ℕ → ℕ
  counts_to i s = mixed i s (listed_at x s)

  -- The counts of the listed states in the image.
  abbrev pub listed_count : ℕ → ℕ
  listed_count j = image.count b (state_at_of x j)

  module _ (A : AcceptedPatch b x) where
    -- At another state than the next listed one nothing changes.
    mixed_same : (i s : ℕ) → i < listed_states x → ¬ (s ≡ state_at_of x i) → (o : Option ℕ) → listed_at x s ≡ o → mixed i s o ≡ mixed (i + 1) s o
    mixed_same i s h u none e = refl
    mixed_same i s h u (some j) e = go (dec_lt j i)
      where
        go : Dec (j < i) → mixed i s (some j) ≡ mixed (i + 1) s (some j)
        go (yes l) = rw (lt-ltb j i l, lt-ltb j (i + 1) (omega arith))
        go (no l) =
            let other : ¬ (j ≡ i) = λ q. u (rw q at (sym (listed_some x s j e).1)) in
            rw (le-ltb j i (omega arith), le-ltb j (i + 1) (omega (arith, other)))

    -- With the first i listed states replaced the sum is the image's and theirs in the patch, less theirs in the image.
    mixed_sum : (i : ℕ) → i < suc (listed_states x) → sum (image.states b) (counts_to i) + sum i listed_count ≡ sum (image.states b) (image.count b) + sum i (patch.count x)
    mixed_sum zero h = omega (arith, sum_same (image.states b) (counts_to 0) (image.count b) (λ s hs. none_yet s (listed_at x s)))
      where
        none_yet : (s : ℕ) (o : Option ℕ) → mixed 0 s o ≡ image.count b s
        none_yet s none = refl
        none_yet s (some j) = rw (le-ltb j 0 (omega arith))
    mixed_sum (suc i) h =
        let l : i < listed_states x = omega arith in
        let s = state_at_of x i in
        let there = listed_there x A.rises i l in
        let before : counts_to i s ≡ image.count b s = rw (there, le-ltb i i (omega arith)) in
        let behind : counts_to (i + 1) s ≡ patch.count x i = rw (there, lt-ltb i (i + 1) (omega arith)) in
        let e : i + 1 ≡ suc i = omega arith in
        let moved = sum_altered (image.states b) s (counts_to i) (counts_to (i + 1)) (A.below i l) (λ j u. mixed_same i j l u (listed_at x j) refl) in
        omega (arith, mixed_sum i (omega arith), moved, before, behind, ap (λ (k : ℕ). sum (image.states b) (counts_to k)) e)

    -- With all of them it is the view's.
    pub total_is : sum (image.states b) (patched_view b x).count + sum (listed_states x) listed_count ≡ image.entries b + patch.entries x
    total_is =
        omega (
          arith,
          mixed_sum (listed_states x) (omega arith),
          A.accepted.stated.total,
          A.counted,
          sum_same (image.states b) (counts_to (listed_states x)) (patched_view b x).count (λ s hs. all s (listed_at x s) refl),
        )
      where
        all : (s : ℕ) (o : Option ℕ) → listed_at x s ≡ o → mixed (listed_states x) s o ≡ from_either o (patch.count x) (image.count b s)
        all s none e = refl
        all s (some j) e = rw (lt-ltb j (listed_states x) (listed_some x s j e).0)
