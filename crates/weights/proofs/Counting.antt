-- Counting the numbers that pass a test, one after the other, for several tests at once.
use Rattle.std.proofs.Common.{◌≡◌, ℕ, ◌+◌, ◌≤◌, ◌<◌, Bool, List, length, get_or, set, ◌∙◌, add-one, arith, length-set, get_or-set_same, get_or-set_other}
use Rattle.std.proofs.lemmas.List.{get_or-replicate, length-replicate}
use Rattle.std.proofs.Math.ListN.{replicate}
use native.Mathlib.Decide.{ℕ_discrete}
use Rattle.paper.specs.Below.{bit, how_many_of}

-- One number more is tested.
pub how_many_more : (i : ℕ) (p : ℕ → Bool) (count new : ℕ) → count ≡ how_many_of i p → new ≡ count + bit (p i) → new ≡ how_many_of (i + 1) p
how_many_more i p count new so_far e = rw (add-one i, e, so_far)

module _ (p : ℕ → ℕ → Bool) (N : ℕ) where
  -- For each of N tests the numbers below c that pass are counted, and for the first j tests the number c too.
  pub record Counts (c j : ℕ) (same : List ℕ) : Type 0 where
    pub long : length same ≡ N
    pub done : (i : ℕ) → i < j → get_or same i 0 ≡ how_many_of (c + 1) (p i)
    pub rest : (i : ℕ) → j ≤ i → i < N → get_or same i 0 ≡ how_many_of c (p i)

  -- At the start none is.
  pub counts_none : Counts 0 0 (replicate N 0)
  counts_none = record { long = length-replicate N 0; done = λ i h. absurd (omega arith); rest = λ i l h. get_or-replicate N i 0 0 h }

  module _ (c j : ℕ) (same : List ℕ) (C : Counts c j same) where
    -- The number c is tested once more.
    pub counts_more : j < N → (a : ℕ) → a ≡ get_or same j 0 + bit (p j c) → Counts c (j + 1) (set same j a)
    counts_more b a e =
        record {
          long = length-set same j a ∙ C.long;
          done = λ i h. done i h (ℕ_discrete i j);
          rest = λ i l h. get_or-set_other same j i a 0 (λ q. omega arith) ∙ C.rest i (omega arith) h;
        }
      where
        done : (i : ℕ) → i < j + 1 → Dec (i ≡ j) → get_or (set same j a) i 0 ≡ how_many_of (c + 1) (p i)
        done i h (yes q) = rw (q, get_or-set_same same j a 0 (omega (arith, C.long))) (how_many_more c (p j) (get_or same j 0) a (C.rest j (omega arith) b) e)
        done i h (no q) = get_or-set_other same j i a 0 q ∙ C.done i (omega arith)

    -- It is tested N times.
    pub counts_all : j ≡ N → Counts (c + 1) 0 same
    counts_all e = record { long = C.long; done = λ i h. absurd (omega arith); rest = λ i l h. C.done i (omega arith) }
