-- Where the target that a state stores for a class stands.
use mathlib.Core.Path.{◌≡◌, refl}
use mathlib.Core.Bool.{Bool, true, false}
use mathlib.Core.Option.{none, some}
use Prim.Native.Nat.{ℕ, ◌<◌}
use lib.Dec.{eqb}
use borrow.Author.Tests.{eqb-true}
use Rattle.paper.specs.Below.{when}
use Rattle.paper.specs.View.{View, stored}
use Rattle.paper.proofs.Below.{first_of_some}
use Rattle.paper.proofs.Tests.{none≢some}

-- A value that is given where a test passes is given where it passes.
when_some : (x c y t : ℕ) → when (eqb x c) y ≡ some t → x ≡ c
when_some x c y t e = go (eqb x c) refl e
  where
    go : (o : Bool) → eqb x c ≡ o → when o y ≡ some t → x ≡ c
    go true q e = eqb-true x c q
    go false q e = absurd (none≢some none t refl e)

-- What a state stores for a class stands at an entry of the class.
pub stored_where : (v : View) (s c t : ℕ) → stored v s c ≡ some t → (j : ℕ) × (j < v.count s) × (v.entry_class s j ≡ c)
unfolding stored
stored_where v s c t e =
    let (j, h, q) = first_of_some (λ j. when (eqb (v.entry_class s j) c) (v.entry_next s j)) (v.count s) t e in
    (j, h, when_some (v.entry_class s j) c (v.entry_next s j) t q)
