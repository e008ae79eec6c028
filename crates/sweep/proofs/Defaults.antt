-- The defaults of an image kept as a list of numbers.
use mathlib.Core.Path.{◌≡◌, sym, ap, ◌∙◌}
use mathlib.Core.List.{List}
use Prim.Native.Nat.{ℕ, ◌+◌, ◌*◌, ◌-◌, ◌≤◌}
use native.Mathlib.Omega.{arith}
use lib.ListN.{length}
use Rattle.paper.specs.Words.{number16}
use Rattle.paper.specs.Image.{records_at_of, default_from_of, default, image_view}
use Rattle.paper.proofs.Filled.{Filled}
use Rattle.chains.specs.Sweeps.{Falls}
use Rattle.image.specs.Passed.{Passed}

-- The number that stands in the record of a state for its default.
abbrev pub default_number_of : List ℕ → ℕ → ℕ
default_number_of b s = number16 b (records_at_of b + 4 * s)

module _ {b : List ℕ} {n k m : ℕ} (P : Passed b n k m) where
  -- The records, from the back of the image.
  pub records_are : length b - (4 * m + 12) - 4 * n ≡ records_at_of b
  records_are = omega (arith, P.states_are, P.entries_are)

  -- They stand in the image.
  pub records_in : (4 * m + 12 + 4 * n + 268 ≤ length b) × (length b ≤ 600000)
  records_in = let L = P.laid in (omega (arith, L.long, P.states_are, P.entries_are), omega (arith, L.long, L.few_states, L.few_entries))

  -- What is read from a record is the number of its default.
  pub number_read : (s x : ℕ) → x ≡ number16 b (length b - (4 * m + 12) - 4 * n + 4 * s) → x ≡ default_number_of b s
  number_read s x e = e ∙ ap (λ (r : ℕ). number16 b (r + 4 * s)) records_are

  -- A list of these numbers is one of the defaults.
  pub filled-falls : (def : List ℕ) → Filled (default_number_of b) def n → Falls (image_view b) n def
  unfolding default
  filled-falls def filled = record { counted = sym P.states_are; falls = λ s h. ap default_from_of (sym (filled s h)) }
