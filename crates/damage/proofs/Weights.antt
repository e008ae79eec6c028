-- The sum of the words of a list of bytes, byte by byte: a byte at an even place counts once, a byte at an odd place 256 times.
use mathlib.Core.Path.{◌≡◌, refl, ap}
use mathlib.Core.Logic.{◌⊎◌, inl, inr}
use mathlib.Core.List.{List, [], ◌∷◌}
use Prim.Native.Nat.{ℕ, zero, suc, ◌+◌, ◌*◌, ◌≤◌}
use native.Mathlib.Numerals.{add-one}
use native.Mathlib.Omega.{arith}
use lib.ListN.{length, take}
use lib.Seq.{length-take-le, get_or-take}
use Rattle.paper.specs.Below.{sum}
use Rattle.paper.specs.Words.{byte_at, number16, words}
use Rattle.paper.proofs.Words.{total}
use Rattle.paper.proofs.Sums.{sum_first, sum_same}

-- How often the byte at a place counts: once at an even place, 256 times at an odd one.
abbrev pub weight : ℕ → ℕ
weight zero = 1
weight (suc zero) = 256
weight (suc (suc i)) = weight i

-- What the byte at a place counts.
abbrev pub counted : List ℕ → ℕ → ℕ
counted b i = weight i * byte_at b i

-- The sum of what all bytes count.
abbrev pub weighed : List ℕ → ℕ
weighed b = sum (length b) (counted b)

-- A byte counts once or 256 times.
pub weight_1_or_256 : (i : ℕ) → (weight i ≡ 1) ⊎ (weight i ≡ 256)
weight_1_or_256 zero = inl refl
weight_1_or_256 (suc zero) = inr refl
weight_1_or_256 (suc (suc i)) = weight_1_or_256 i

-- The sum of the words is the sum of what all bytes count, also where the number of bytes is odd.
pub total_weighed : (b : List ℕ) → total (words b) ≡ weighed b
total_weighed [] = refl
total_weighed (x ∷ []) = omega arith
total_weighed (x ∷ y ∷ b) =
    let f = counted (x ∷ y ∷ b) in
    omega (arith, total_weighed b, sum_first (suc (length b)) f, sum_first (length b) (λ i. f (suc i)))

-- At an even place a byte counts once, and at the place behind 256 times.
weight_even : (p : ℕ) → (weight (2 * p) ≡ 1) × (weight (suc (2 * p)) ≡ 256)
weight_even zero = (refl, refl)
weight_even (suc p) = let e : 2 * suc p ≡ suc (suc (2 * p)) = omega arith in rw e (weight_even p)

-- What the first bytes count, taken alone or in the whole.
weighed_take : (n : ℕ) (b : List ℕ) → n ≤ length b → weighed (take n b) ≡ sum n (counted b)
weighed_take n b h = rw (length-take-le n b h) (sum_same n (counted (take n b)) (counted b) (λ i l. ap (λ (x : ℕ). weight i * x) (get_or-take n b i 0 l)))

-- The last word of an even number of bytes apart.
pub weighed_last : (b : List ℕ) (p : ℕ) → length b ≡ 2 * p + 2 → weighed b ≡ weighed (take (2 * p) b) + number16 b (2 * p)
unfolding number16
weighed_last b p e =
    let n = 2 * p in
    let all : length b ≡ suc (suc n) = omega arith in
    let once : counted b n ≡ 1 * byte_at b n = ap (λ (w : ℕ). w * byte_at b n) (weight_even p).0 in
    let often : counted b (suc n) ≡ 256 * byte_at b (suc n) = ap (λ (w : ℕ). w * byte_at b (suc n)) (weight_even p).1 in
    rw (weighed_take n b (omega arith), all, add-one n) (omega arith)
