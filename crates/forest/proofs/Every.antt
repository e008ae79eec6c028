-- A test that is to pass at every number below n, looked at one after the other.
use mathlib.Core.Path.{◌≡◌, refl, sym, ◌∙◌, ap₂}
use mathlib.Core.Bool.{Bool, false, ◌&&◌, true≢false}
use Prim.Native.Nat.{ℕ, zero, suc, ◌<◌}
use native.Mathlib.Omega.{arith}
use Rattle.paper.specs.Below.{every}
use Rattle.paper.proofs.Below.{bool_false, every_at}

-- One at which it fails is enough.
pub every_fails : (n i : ℕ) (p : ℕ → Bool) → i < n → p i ≡ false → every n p ≡ false
every_fails n i p l e = bool_false (every n p) (λ t. true≢false (sym (every_at n i p t l) ∙ e))

-- Whether it passes at all depends on the numbers below n only.
pub every_same : (n : ℕ) (p q : ℕ → Bool) → ((i : ℕ) → i < n → p i ≡ q i) → every n p ≡ every n q
every_same zero p q h = refl
every_same (suc n) p q h = ap₂ ◌&&◌ (every_same n p q (λ i l. h i (omega arith))) (h n (omega arith))
