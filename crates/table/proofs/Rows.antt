-- Rows of cells, one after the other.
use mathlib.Core.Path.{◌≡◌, sym}
use mathlib.Core.Bool.{Bool, ◌||◌, or-false, or_assoc}
use Prim.Native.Nat.{ℕ, zero, suc, ◌+◌, ◌*◌, ◌<◌}
use native.Mathlib.Nat.{add-zero, add-suc, zero-mul, suc-mul, mul-le-mul_right}
use native.Mathlib.Omega.{arith}
use Rattle.paper.specs.Below.{any}

-- One of the first a + b numbers passes just where one of the first a does, or one of the b behind them.
pub any-behind : (a b : ℕ) (p : ℕ → Bool) → any (a + b) p ≡ any a p || any b (λ i. p (a + i))
any-behind a zero p = rw add-zero (sym (or-false (any a p)))
any-behind a (suc b) p = rw (add-suc a b, any-behind a b p) (or_assoc (any a p) (any b (λ i. p (a + i))) (p (a + b)))

-- A test over all cells of n rows of k cells is the test over each row's cells.
pub any-rows : (n k : ℕ) (p : ℕ → Bool) → any (n * k) p ≡ any n (λ s. any k (λ c. p (s * k + c)))
any-rows zero k p = rw (zero-mul k)
any-rows (suc n) k p = rw (suc-mul n k, any-behind (n * k) k p, any-rows n k p)

-- A row's cell is one of all cells.
pub cell_below : (n k s c : ℕ) → s < n → c < k → s * k + c < n * k
cell_below n k s c hs hc = omega (arith, suc-mul s k, mul-le-mul_right k hs)
