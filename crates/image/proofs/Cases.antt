-- Laws of the code's enums and what they stand for.
use mathlib.Core.Path.{◌≡◌, refl, sym, ap, ◌∙◌}
use mathlib.Core.Bool.{Bool, true, false}
use mathlib.Core.List.{List}
use mathlib.Core.Option.{Option, none, some}
use Prim.Native.Nat.{ℕ, ◌+◌, ◌*◌}
use native.Mathlib.Omega.{arith}
use lib.Dec.{eqb}
use borrow.Author.Tests.{eq-eqb, ne_eqb, eqb-true}
use Rattle.paper.specs.Words.{number16}
use Rattle.paper.specs.Image.{records_at_of, default_from_of, default}
use Rattle.image.specs.Forms.{number_of, default_of, either_fallback, fallback_from, record_at_of, step_of}
use Rattle.std.specs.Prelude.{None, Some}
use Rattle.image.specs.declared.Record.{Record}
use Rattle.image.specs.Forms.{Step}

-- 65535 is a root.
pub fallback_root : (d : ℕ) → d ≡ 65535 → fallback_from d ≡ None
unfolding fallback_from
fallback_root d e = rw (eq-eqb d 65535 e)

-- Any other number is the state that is fallen to.
pub fallback_state : (d : ℕ) → ¬ (d ≡ 65535) → fallback_from d ≡ Some d
unfolding fallback_from
fallback_state d n = rw (ne_eqb d 65535 n)

-- The number of the case that was read from a number is that number.
pub number_from : (d : ℕ) → number_of (fallback_from d) ≡ d
unfolding fallback_from
number_from d = go (eqb d 65535) refl
  where
    go : (b : Bool) → eqb d 65535 ≡ b → number_of (either_fallback b None (Some d)) ≡ d
    go true e = rw (eqb-true d 65535 e)
    go false e = refl

-- Its default is the paper's.
pub default_from : (d : ℕ) → default_of (fallback_from d) ≡ default_from_of d
unfolding fallback_from
default_from d = go (eqb d 65535) refl
  where
    go : (b : Bool) → eqb d 65535 ≡ b → default_of (either_fallback b None (Some d)) ≡ default_from_of d
    go true e = rw e
    go false e = rw e

-- The default of a state is where its record falls.
pub record_default : (b : List ℕ) (s : ℕ) (r : Record) → r ≡ record_at_of b (records_at_of b + 4 * s) → default b s ≡ default_of r.fallback
unfolding default
record_default b s r e = sym (ap (λ (x : Record). default_of x.fallback) e ∙ default_from (number16 b (records_at_of b + 4 * s)))

-- A step that answers a target found one stored.
pub step_stored : (o : Option ℕ) (r : Step) (t : ℕ) → r ≡ step_of o → r ≡ Some t → o ≡ some t
step_stored none r t e q = let z : None ≡ Some t = sym e ∙ q in let w : ◌≡◌ {A = ℕ} 0 1 = cc in absurd (omega arith)
step_stored (some x) r t e q = let z : Some x ≡ Some t = sym e ∙ q in let w : x ≡ t = cc in ap {B = Option ℕ} some w

-- A step that answers nothing found none.
pub step_nothing : (o : Option ℕ) (r : Step) → r ≡ step_of o → r ≡ None → o ≡ none
step_nothing none r e q = refl
step_nothing (some x) r e q = let z : Some x ≡ None = sym e ∙ q in let w : ◌≡◌ {A = ℕ} 0 1 = cc in absurd (omega arith)
