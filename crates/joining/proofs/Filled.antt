-- Filling an array from its first place on: one place more is stored, or is right as it stands.
use mathlib.Core.Path.{◌≡◌, refl, ◌∙◌}
use mathlib.Core.List.{List}
use Prim.Native.Nat.{ℕ, ◌+◌, ◌<◌}
use native.Mathlib.Omega.{arith}
use native.Mathlib.Decide.{ℕ_discrete}
use lib.ListN.{length, get_or, set}
use lib.Seq.{get_or-set_same, get_or-set_other}
use Rattle.joining.specs.Filled.{Filled}

-- After a store a place holds what is stored there or what it held.
pub get_d_set : (Holds : ℕ → Type 0) (l : List ℕ) (i j a : ℕ) → i < length l
    → (j ≡ i → Holds a) → (¬ (j ≡ i) → Holds (get_or l j 0)) → Holds (get_or (set l i a) j 0)
get_d_set Holds l i j a long here there =
    elim (ℕ_discrete j i) [
      | yes e ↦ rw (e, get_or-set_same l i a 0) (here e)
      | no e ↦ rw (get_or-set_other l i j a 0 e) (there e)
    ]

module _ (Right : ℕ → ℕ → Type 0) where
  -- At the start nothing is filled.
  pub filled_starts : (old : List ℕ) → Filled Right old old 0
  filled_starts old = record { done = λ j l. absurd (omega arith); rest = λ j l. refl }

  module _ (old new : List ℕ) (i : ℕ) (filled : Filled Right old new i) where
    -- A right value is stored at the next place.
    pub filled-stored : (a : ℕ) → i < length new → Right i a → Filled Right old (set new i a) (i + 1)
    filled-stored a long right =
        record {
          done = λ j l. get_d_set (Right j) new i j a long (λ e. rw e right) (λ e. filled.done j (omega arith));
          rest = λ j l. get_or-set_other new i j a 0 (λ e. omega arith) ∙ filled.rest j (omega arith);
        }

    -- The next place is right as it stands.
    pub filled-kept : Right i (get_or old i 0) → Filled Right old new (i + 1)
    filled-kept right =
        record {
          done = λ j l. elim (ℕ_discrete j i) [
            | yes e ↦ rw (e, filled.rest i (omega arith)) right
            | no e ↦ filled.done j (omega arith)
          ];
          rest = λ j l. filled.rest j (omega arith);
        }
