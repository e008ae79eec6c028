-- A number in decimal: the digits that the kit spells, and how many there are.
use mathlib.Core.Path.{◌≡◌, ap₂}
use mathlib.Core.Bool.{Bool, true, false, cond}
use mathlib.Core.List.{List, [], ◌∷◌, ◌++◌}
use Prim.Native.Nat.{ℕ, zero, suc, ◌*◌, ◌-◌, ◌/◌, ◌%◌, ◌^◌, ◌≤◌, ◌<◌}
use native.Mathlib.Nat.{pow-suc, one-le-pow}
use native.Mathlib.Omega.{arith}
use lib.Dec.{ltb}
use lib.ListN.{length, length-append}
use borrow.Author.Tests.{lt-ltb, le-ltb}
use Rattle.io.specs.Digits as io
use Rattle.paper.specs.Text.{digit, digits, decimal}

-- The last digit is the kit's.
last_digit : (x : ℕ) → io.hex_digit_ascii (x % 10) ≡ digit (x % 10)
last_digit x = let h : x % 10 < 10 = omega arith in rw (lt-ltb (x % 10) 10 h)

-- A power of ten is ten times the one before, which is 1 at least.
ten_times : (k : ℕ) → (10 ^ suc k ≡ 10 ^ k * 10) × (1 ≤ 10 ^ k)
ten_times k = (pow-suc 10 k, one-le-pow k 10 (omega arith))

-- The fewest digits that hold a number are its digits, where so many are allowed.
spelt : (k left x : ℕ) → suc k ≤ left → x < 10 ^ suc k → (1 ≤ k → 10 ^ k ≤ x) → io.last_digits 10 (suc k) x ≡ digits left x
spelt k zero x h less least = absurd (omega arith)
spelt zero (suc left) x h less least = let few : x < 10 = omega arith in rw (lt-ltb x 10 few, last_digit x)
spelt (suc k) (suc left) x h less least =
    let (p, one) = ten_times k in
    let (q, _) = ten_times (suc k) in
    let many : 10 ^ suc k ≤ x = least (omega arith) in
    let two : 10 ≤ x = omega arith in
    rw (le-ltb x 10 two)
    (ap₂ (λ (before : List ℕ) (d : ℕ). before ++ (d ∷ [])) (spelt k left (x / 10) (omega arith) (omega arith) (λ l. omega arith)) (last_digit x))

-- No number is above that power of ten.
power_above : (k : ℕ) → k ≤ 10 ^ k
power_above zero = omega arith
power_above (suc k) = let (p, one) = ten_times k in omega (arith, power_above k)

-- What the kit spells is the number in decimal.
pub spelt_decimal : (n k : ℕ) → io.IsDigitCount 10 1 n k → io.last_digits 10 k n ≡ decimal n
unfolding decimal
spelt_decimal n zero (some, less, least) = absurd (omega arith)
spelt_decimal n (suc k) (some, less, least) =
    let same : suc k - 1 ≡ k = omega arith in
    let at_least : (1 ≤ k → 10 ^ k ≤ n) = λ l. rw same at (least (omega arith)) in
    spelt k (suc n) n (few k at_least) less at_least
  where
    few : (k : ℕ) → (1 ≤ k → 10 ^ k ≤ n) → suc k ≤ suc n
    few zero h = omega arith
    few (suc k) h = omega (arith, h (omega arith), power_above (suc k))

-- Digits that are left out where a test passes are no more than they would be.
cond_length : (t : Bool) (xs : List ℕ) → length (cond t [] xs) ≤ length xs
cond_length true xs = omega arith
cond_length false xs = omega arith

digits-length : (left k x : ℕ) → x < 10 ^ suc k → length (digits left x) ≤ suc k
digits-length zero k x h = omega arith
digits-length (suc left) zero x h = let few : x < 10 = omega arith in rw (lt-ltb x 10 few) (omega arith)
digits-length (suc left) (suc k) x h =
    let (q, _) = ten_times (suc k) in
    let before = digits left (x / 10) in
    omega (arith, length-append (cond (ltb x 10) [] before) (digit (x % 10) ∷ []), cond_length (ltb x 10) before, digits-length left k (x / 10) (omega arith))

-- A number below a power of ten has no more digits than that, and one at least is allowed.
pub decimal-length : (k n : ℕ) → n < 10 ^ suc k → length (decimal n) ≤ suc k
unfolding decimal
decimal-length k n h = digits-length (suc n) k n h
