-- What is known of a pair that is taken, and of one that is not.
use mathlib.Core.Path.{◌≡◌, refl, sym, ◌∙◌}
use mathlib.Core.Bool.{Bool, true, false}
use Prim.Native.Nat.{ℕ, ◌+◌, ◌≤◌}
use native.Mathlib.Omega.{arith}
use lib.Dec.{eqb}
use borrow.Author.Tests.{leb-true, ne_eqb}
use Rattle.paper.specs.Below.{differ}
use Rattle.paper.proofs.Below.{and_true, bool_false}
use Rattle.pairs.specs.Taken.{is_taken}

-- Over a pair that is taken the path is at most D.
pub taken_short : (x w tu tv du dv D : ℕ) (b : Bool) → b ≡ is_taken x w tu tv du dv D → b ≡ true → du + dv + 1 ≤ D
taken_short x w tu tv du dv D b e t =
    let (same, test) = and_true (eqb x w) _ (sym e ∙ t) in
    leb-true (du + dv + 1) D (and_true (differ tu tv) _ test).1

-- A pair with a state whose distance has reached D is not.
pub taken_full : (x w tu tv du dv D : ℕ) → D ≤ du → is_taken x w tu tv du dv D ≡ false
taken_full x w tu tv du dv D full =
    bool_false (is_taken x w tu tv du dv D) (λ q. omega (arith, taken_short x w tu tv du dv D (is_taken x w tu tv du dv D) refl q))

-- Nor is a pair of another weight.
pub taken_other : (x w tu tv du dv D : ℕ) → ¬ (x ≡ w) → is_taken x w tu tv du dv D ≡ false
taken_other x w tu tv du dv D other = rw (ne_eqb x w other)
