-- The states between two that a patch lists are the image's.
use mathlib.Core.Path.{◌≡◌}
use mathlib.Core.List.{List}
use mathlib.Core.Option.{none}
use Prim.Native.Nat.{ℕ, suc, ◌+◌, ◌≤◌, ◌<◌}
use native.Mathlib.Decide.{dec_lt}
use native.Mathlib.Omega.{arith}
use Rattle.paper.specs.Patch.{listed_states, state_at_of, listed_at}
use Rattle.paper.proofs.Rising.{Rises, ahead}
use Rattle.facts.proofs.Listed.{listed_nowhere}

-- The first i listed states are below `done`, and the others are not.
pub record Between (x : List ℕ) (i done : ℕ) : Type 0 where
  pub within : i ≤ listed_states x
  pub passed : (j : ℕ) → j < i → state_at_of x j < done
  pub ahead_are : (j : ℕ) → i ≤ j → j < listed_states x → done ≤ state_at_of x j

-- At first none is.
pub between_start : (x : List ℕ) → Between x 0 0
between_start x = record { within = omega arith; passed = λ j h. absurd (omega arith); ahead_are = λ j h l. omega arith }

module _ {x : List ℕ} {i done : ℕ} (up : Rises (state_at_of x) (listed_states x)) (B : Between x i done) where
  -- A state before the next listed one is not listed.
  pub gap_unlisted : i < listed_states x → (s : ℕ) → done ≤ s → s < state_at_of x i → listed_at x s ≡ none
  gap_unlisted h s l u = listed_nowhere x s (λ j hj e. go j hj e (dec_lt j i) (dec_lt i j))
    where
      go : (j : ℕ) → j < listed_states x → state_at_of x j ≡ s → Dec (j < i) → Dec (i < j) → ⊥
      go j hj e (yes k) d = omega (arith, B.passed j k)
      go j hj e (no k) (yes d) = omega (arith, ahead (state_at_of x) (listed_states x) up i j d hj)
      go j hj e (no k) (no d) = let q : j ≡ i = omega arith in absurd (omega (arith, rw q at e))

  -- Nor is one behind the last.
  pub rest_unlisted : listed_states x ≤ i → (s : ℕ) → done ≤ s → listed_at x s ≡ none
  rest_unlisted h s l = listed_nowhere x s (λ j hj e. absurd (omega (arith, B.passed j (omega arith))))

  -- Behind the next listed state one more is passed.
  pub between_more : i < listed_states x → Between x (i + 1) (state_at_of x i + 1)
  between_more h =
      record {
        within = omega arith;
        passed = λ j l. go j l (dec_lt j i);
        ahead_are = λ j l u. omega (arith, ahead (state_at_of x) (listed_states x) up i j (omega arith) u);
      }
    where
      go : (j : ℕ) → j < i + 1 → Dec (j < i) → state_at_of x j < state_at_of x i + 1
      go j l (yes k) = omega (arith, B.passed j k, B.ahead_are i (omega arith) h)
      go j l (no k) = let q : j ≡ i = omega arith in rw q (omega arith)
