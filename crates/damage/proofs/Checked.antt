-- Lists of bytes that end in their own check word: no two of them differ in one byte alone.
use mathlib.Core.Path.{◌≡◌}
use mathlib.Core.List.{List, [], ◌∷◌}
use Prim.Native.Nat.{ℕ, zero, suc, ◌+◌, ◌-◌, ◌*◌}
use native.Mathlib.Omega.{arith}
use lib.ListN.{length, take}
use Rattle.paper.specs.Altered.{Altered}
use Rattle.paper.specs.Words.{Bytes, number16, words, check_word_of}
use Rattle.paper.specs.Image.{states, entries, behind}
use Rattle.paper.specs.Operations.{judge_image_of}
use Rattle.paper.proofs.Words.{words_fit}
use Rattle.facts.proofs.ImageFacts.{accepted_image}
use Rattle.damage.proofs.Weights.{weighed, total_weighed, weighed_last}
use Rattle.damage.proofs.Altered.{weighed_altered}
use Rattle.damage.proofs.CheckWords.{total_check_word}

-- An even number of bytes, at least two, whose last word is the check word of all words before it.
pub record Checked (b : List ℕ) : Type 0 where
  pub before : ℕ
  pub even : length b ≡ 2 * before + 2
  pub right : number16 b (2 * before) ≡ check_word_of (words (take (2 * before) b))

-- A beginning of a list of bytes is a list of bytes.
bytes_take : (n : ℕ) (b : List ℕ) → Bytes b → Bytes (take n b)
bytes_take zero b h i = omega arith
bytes_take (suc n) [] h i = h i
bytes_take (suc n) (x ∷ b) h zero = h 0
bytes_take (suc n) (x ∷ b) h (suc i) = bytes_take n b (λ j. h (suc j)) i

-- The sum of their words, the check word included, is a multiple of 65535.
pub checked_multiple : (b : List ℕ) → Bytes b → Checked b → (q : ℕ) × (weighed b ≡ 65535 * q)
checked_multiple b h c =
    let front = take (2 * c.before) b in
    let m = total_check_word (words front) (words_fit front (bytes_take (2 * c.before) b h)) in
    (m.0, omega (arith, m.1, c.right, weighed_last b c.before c.even, total_weighed front))

-- Of two lists that differ in one byte not both end in their check word.
pub checked_altered : (b b' : List ℕ) → Bytes b → Bytes b' → Altered b b' → Checked b → Checked b' → ⊥
checked_altered b b' h h' a c c' = omega (arith, weighed_altered b b' h h' a, (checked_multiple b h c).1, (checked_multiple b' h' c').1)

-- An accepted image ends in its check word.
pub accepted_checked : (b : List ℕ) → judge_image_of b ≡ 0 → Checked b
accepted_checked b e =
    let A = accepted_image b e in
    let n = 139 + 3 * states b + behind b + 2 * entries b in
    let last : length b - 2 ≡ 2 * n = omega (arith, A.long) in
    record { before = n; even = omega (arith, A.long); right = rw last at A.checked }
