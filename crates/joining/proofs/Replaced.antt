-- A number put in the stead of another, one place after the other.
use mathlib.Core.Path.{◌≡◌, sym, ◌∙◌}
use mathlib.Core.Logic.{◌⊎◌, inl, inr}
use mathlib.Core.List.{List}
use Prim.Native.Nat.{ℕ, ◌+◌, ◌<◌}
use native.Mathlib.Omega.{arith}
use lib.ListN.{length, get_or, set, length-set}
use borrow.Author.Tests.{eq-eqb, ne_eqb}
use Rattle.joining.specs.Filled.{replaced, Replaced}
use Rattle.joining.proofs.Filled.{filled_starts, filled-stored, filled-kept}

module _ (out : ℕ → ℕ) (instead : ℕ) (old : List ℕ) where
  -- What a place is to hold.
  abbrev Right : ℕ → ℕ → Type 0
  Right x a = a ≡ replaced (out x) instead (get_or old x 0)

  -- At the start nothing is replaced.
  pub replaced_starts : Replaced out instead old old 0
  replaced_starts = filled_starts Right old

  module _ (new : List ℕ) (i : ℕ) (W : Replaced out instead old new i) where
    -- The next place holds the number that goes.
    pub replaced_there : i < length new → get_or new i 0 ≡ out i → Replaced out instead old (set new i instead) (i + 1)
    replaced_there long e =
        filled-stored Right old new i W instead long (rw (eq-eqb (get_or old i 0) (out i) (sym (W.rest i (omega arith)) ∙ e)))

    -- It holds another.
    pub replaced_not : ¬ (get_or new i 0 ≡ out i) → Replaced out instead old new (i + 1)
    replaced_not ne =
        filled-kept Right old new i W (rw (ne_eqb (get_or old i 0) (out i) (λ e. ne (W.rest i (omega arith) ∙ e))))

  -- A list as long as all arrays of states, whose first places are replaced.
  pub record Replacing (new : List ℕ) (i : ℕ) : Type 0 where
    pub long : length new ≡ 512
    pub so_far : Replaced out instead old new i

  -- One place more, on whichever way the test went.
  pub replacing_more : (new after : List ℕ) (i : ℕ) → Replacing new i → i < 512
      → ((get_or new i 0 ≡ out i) × (after ≡ set new i instead)) ⊎ ((¬ (get_or new i 0 ≡ out i)) × (after ≡ new)) → Replacing after (i + 1)
  replacing_more new after i R h (inl (e, q)) =
      rw q (record { long = length-set new i instead ∙ R.long; so_far = replaced_there new i R.so_far (omega (arith, R.long)) e })
  replacing_more new after i R h (inr (e, q)) = rw q (record { long = R.long; so_far = replaced_not new i R.so_far e })
