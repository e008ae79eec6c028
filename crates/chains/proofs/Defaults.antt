-- Defaults as numbers of 16 bits: 65535 is none, any other number is a state.
use mathlib.Core.Path.{◌≡◌, refl, sym, ◌∙◌}
use mathlib.Core.Bool.{Bool, true, false, not, true≢false}
use mathlib.Core.Option.{none, some}
use mathlib.Core.List.{List}
use Prim.Native.Nat.{ℕ}
use native.Mathlib.Omega.{arith}
use lib.Dec.{eqb}
use lib.ListN.{get_or}
use borrow.Author.Tests.{eq-eqb, ne_eqb}
use Rattle.paper.specs.Below.{when}
use Rattle.paper.specs.Image.{default_from_of}
use Rattle.paper.proofs.Tests.{none≢some}
use Rattle.paper.proofs.Chain.{Inside, some_same}
use Rattle.chains.specs.Orders.{defaults_view, InRange}

-- 65535 is none.
pub from_none : (x : ℕ) → x ≡ 65535 → default_from_of x ≡ none
from_none x e = rw (eq-eqb x 65535 e)

-- Any other number is a state.
pub from_some : (x : ℕ) → ¬ (x ≡ 65535) → default_from_of x ≡ some x
from_some x e = rw (ne_eqb x 65535 e)

-- Under any name for it.
pub from_named : (x d : ℕ) → ¬ (x ≡ 65535) → d ≡ x → default_from_of x ≡ some d
from_named x d e q = rw q (from_some x e)

-- A default that is there is the number, which is not 65535.
pub from_which : (x d : ℕ) → default_from_of x ≡ some d → (x ≡ d) × (¬ (x ≡ 65535))
from_which x d e = go (eqb x 65535) refl e
  where
    go : (b : Bool) → eqb x 65535 ≡ b → when (not b) x ≡ some d → (x ≡ d) × (¬ (x ≡ 65535))
    go true q e = absurd (none≢some none d refl e)
    go false q e = (some_same e, λ h. true≢false (sym (eq-eqb x 65535 h) ∙ q))

-- Defaults in range stay among the states.
pub range_inside : (n : ℕ) (def : List ℕ) → InRange n def → Inside (defaults_view n def)
range_inside n def range s d hs e = let (q, r) = from_which (get_or def s 0) d e in omega (arith, range s hs r)
