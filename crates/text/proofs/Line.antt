-- A line of numbers: what stands behind its first number, and how long it is.
use mathlib.Core.Path.{◌≡◌, refl}
use mathlib.Core.List.{List, [], ◌∷◌, ◌++◌}
use Prim.Native.Nat.{ℕ, ◌+◌, ◌*◌, ◌≤◌, ◌<◌}
use native.Mathlib.Numerals.{add-one}
use native.Mathlib.Omega.{arith}
use lib.ListN.{length, drop, get_or, length-append, drop_of_length-le}
use lib.Seq.{drop-cons}
use Rattle.paper.specs.Text.{decimal, line, refused_line}
use Rattle.text.proofs.Decimal.{decimal-length}

-- What stands in a line behind a number: the numbers that follow, a space before each, and the line's end.
abbrev pub behind : List ℕ → List ℕ
behind [] = 10 ∷ []
behind (x ∷ xs) = (32 ∷ decimal x) ++ behind xs

-- A line is its first number and what stands behind it.
pub line_first : (x : ℕ) (xs : List ℕ) → line (x ∷ xs) ≡ decimal x ++ behind xs
line_first x [] = refl
line_first x (y ∷ ys) = rw (line_first y ys)

-- The same of a list of one number or more.
pub line_begins : (xs : List ℕ) → 0 < length xs → line xs ≡ decimal (get_or xs 0 0) ++ behind (drop 1 xs)
line_begins [] h = absurd (omega arith)
line_begins (x ∷ xs) h = line_first x xs

-- Behind the numbers before i stand a space, the next of them, and what stands behind that.
pub behind-next : (xs : List ℕ) (i : ℕ) → i < length xs → behind (drop i xs) ≡ (32 ∷ decimal (get_or xs i 0)) ++ behind (drop (i + 1) xs)
behind-next xs i h = rw (add-one i, drop-cons xs i 0 h)

-- Behind all of them stands the line's end.
pub behind_last : (xs : List ℕ) (i : ℕ) → length xs ≤ i → behind (drop i xs) ≡ 10 ∷ []
behind_last xs i h = rw (drop_of_length-le xs h)

-- Each number fits in 32 bits.
abbrev pub Small : List ℕ → Type 0
Small [] = ◌≡◌ {A = ℕ} 0 0
Small (x ∷ xs) = (x < 4294967296) × Small xs

-- A number that fits in 32 bits has ten digits at most.
ten_digits : (x : ℕ) → x < 4294967296 → length (decimal x) ≤ 10
ten_digits x h = decimal-length 9 x (omega arith)

behind-length : (xs : List ℕ) → Small xs → length (behind xs) ≤ 1 + 11 * length xs
behind-length [] h = omega arith
behind-length (x ∷ xs) (h, hs) = omega (arith, length-append (32 ∷ decimal x) (behind xs), ten_digits x h, behind-length xs hs)

-- A line of such numbers takes eleven bytes at most for each.
pub line-length : (x : ℕ) (xs : List ℕ) → Small (x ∷ xs) → length (line (x ∷ xs)) ≤ 11 * length (x ∷ xs)
line-length x xs (h, hs) = rw (line_first x xs) (omega (arith, length-append (decimal x) (behind xs), ten_digits x h, behind-length xs hs))

-- The line of a refusal takes nineteen.
pub refused_length : (number : ℕ) → number < 4294967296 → length (refused_line number) ≤ 19
unfolding refused_line
refused_length number h = omega (arith, line-length number [] (h, refl))
