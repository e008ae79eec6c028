-- Defaults, and labels of edition 1, as numbers of 16 bits, and back.
use mathlib.Core.Path.{◌≡◌, refl, sym}
use mathlib.Core.Bool.{Bool, true, false, not}
use mathlib.Core.Option.{Option, none, some}
use mathlib.Core.List.{List, [], ◌∷◌}
use Prim.Native.Nat.{ℕ, zero, suc, ◌<◌}
use native.Mathlib.Omega.{arith}
use lib.Dec.{eqb}
use borrow.Author.Tests.{eqb-true, ne_eqb}
use Rattle.paper.specs.Below.{when, or}
use Rattle.paper.specs.Labels.{one, label_list}
use Rattle.paper.specs.Image.{default_from_of}
use Rattle.paper.specs.Results.{default_number_of, label_number_of}
use Rattle.paper.proofs.Labels.{Small}
use Rattle.facts.proofs.LabelFacts.{Labelled}

-- A default's number is the number that gives it.
pub default_number : (x : ℕ) → default_number_of (default_from_of x) ≡ x
default_number x = go (eqb x 65535) refl
  where
    go : (b : Bool) → eqb x 65535 ≡ b → or (when (not b) x) 65535 ≡ x
    go true e = sym (eqb-true x 65535 e)
    go false e = refl

-- A default below 65535 is given back by its number, which has 16 bits.
pub default-back : (o : Option ℕ) → ((d : ℕ) → o ≡ some d → d < 65535) → (default_number_of o < 65536) × (default_from_of (default_number_of o) ≡ o)
default-back none h = (omega arith, refl)
default-back (some d) h = let l : d < 65535 = h d refl in (omega arith, rw (ne_eqb d 65535 (λ q. omega arith)))

-- A label's number is the number that gives it.
pub label_number : (x : ℕ) → label_number_of (label_list x) ≡ x
label_number zero = refl
label_number (suc x) = refl

-- Labels of edition 1 are given back by their number.
pub label-back : (ls : List ℕ) → Labelled one ls → label_list (label_number_of ls) ≡ ls
label-back [] L = refl
label-back (zero ∷ []) L = absurd (omega (arith, L.above 0 (omega arith)))
label-back (suc x ∷ []) L = refl
label-back (x ∷ y ∷ ls) L = absurd (omega (arith, L.few))

-- The number has 16 bits where they have.
pub label_small : (ls : List ℕ) → Small ls → label_number_of ls < 65536
label_small [] S = omega arith
label_small (x ∷ ls) S = S 0
