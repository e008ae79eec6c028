-- Counting the classes that a state keeps, one by one.
use mathlib.Core.Path.{◌≡◌, sym, ap, ◌∙◌}
use mathlib.Core.Bool.{Bool, true, false}
use mathlib.Core.Logic.{◌⊎◌, inl, inr}
use mathlib.Core.List.{List}
use Prim.Native.Nat.{ℕ, ◌+◌, ◌≤◌, ◌<◌}
use native.Mathlib.Numerals.{add-one}
use native.Mathlib.Omega.{arith}
use Rattle.paper.specs.Below.{bit}
use Rattle.paper.specs.Image.{default_from_of}
use Rattle.tally.specs.Kept.{kept, kept_count}

-- Of the first c classes so many are kept.
abbrev pub Counted : List ℕ → ℕ → ℕ → ℕ → ℕ → ℕ → Type 0
Counted t k s d c count = (c ≤ k) × (count ≡ kept_count t c s d) × (count ≤ c)

-- One class more: counted where it is kept.
pub counted : (t : List ℕ) (k s d c count next : ℕ) (b : Bool) → Counted t k s d c count → c < k → b ≡ kept t s c (default_from_of d)
    → ((b ≡ true) × (next ≡ count + 1)) ⊎ ((b ≡ false) × (next ≡ count)) → Counted t k s d (c + 1) next
counted t k s d c count next b (h, e, l) less q (inl (y, n)) = (omega arith, rw (add-one c) (omega (arith, ap bit (sym q ∙ y))), omega arith)
counted t k s d c count next b (h, e, l) less q (inr (y, n)) = (omega arith, rw (add-one c) (omega (arith, ap bit (sym q ∙ y))), omega arith)
