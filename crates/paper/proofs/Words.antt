-- Laws of the numbers and words in a list of bytes, and of the ones' complement sum. That sum is the plain sum of the words, less 65535 as
-- often as it goes, but above 0 where the plain sum is.
use mathlib.Core.Path.{◌≡◌, refl, sym, ap, ◌∙◌}
use mathlib.Core.Bool.{Bool, true, false, cond}
use mathlib.Core.List.{List, [], ◌∷◌}
use Prim.Native.Nat.{ℕ, zero, suc, ◌+◌, ◌*◌, ◌-◌, ◌/◌, ◌%◌, ◌≤◌, ◌<◌}
use native.Mathlib.Omega.{arith}
use lib.Dec.{leb}
use borrow.Author.Tests.{leb-true, leb-false}
use Rattle.paper.specs.Words.{Bytes, number16, number32, words, ◌⊕◌, ones_sum}

-- A number of 16 bits is below 65536.
pub number16_below : (b : List ℕ) (at : ℕ) → Bytes b → number16 b at < 65536
unfolding number16
number16_below b at h = omega (arith, h at, h (at + 1))

-- A number of 32 bits is below 4294967296.
pub number32_below : (b : List ℕ) (at : ℕ) → Bytes b → number32 b at < 4294967296
unfolding number32
number32_below b at h = omega (arith, number16_below b at h, number16_below b (at + 2) h)

-- Each word fits in 16 bits.
abbrev pub Fit : List ℕ → Type 0
Fit [] = ◌≡◌ {A = ℕ} 0 0
Fit (w ∷ ws) = (w ≤ 65535) × Fit ws

-- The words of bytes fit in 16 bits.
pub words_fit : (b : List ℕ) → Bytes b → Fit (words b)
words_fit [] h = refl
words_fit (x ∷ []) h = (omega (arith, h 0), refl)
words_fit (x ∷ y ∷ b) h = (omega (arith, h 0, h 1), words_fit b (λ i. h (suc (suc i))))

-- The plain sum of words.
abbrev pub total : List ℕ → ℕ
total [] = 0
total (w ∷ ws) = w + total ws

-- The ones' complement number of a sum: 0 of 0, and else a number from 1 to 65535.
unfoldable pub rep : ℕ → ℕ
rep zero = 0
rep (suc s) = suc (s % 65535)

-- It differs from the sum by a multiple of 65535.
pub rep_multiple : (s : ℕ) → (q : ℕ) × (s ≡ rep s + 65535 * q)
unfolding rep
rep_multiple zero = (0, refl)
rep_multiple (suc s) = (s / 65535, omega arith)

-- It fits in 16 bits.
pub rep_most : (s : ℕ) → rep s ≤ 65535
unfolding rep
rep_most zero = omega arith
rep_most (suc s) = omega arith

-- It is above 0 where the sum is.
pub rep_above : (s : ℕ) → 0 < s → 0 < rep s
unfolding rep
rep_above zero h = h
rep_above (suc s) h = omega arith

-- It is the sum itself where that fits in 16 bits.
pub rep_fits : (s : ℕ) → s ≤ 65535 → rep s ≡ s
unfolding rep
rep_fits zero h = refl
rep_fits (suc s) h = omega arith

-- It stays the same where a multiple of 65535 is taken from the sum and a sum above 0 stays above 0.
pub rep_same : (s r q : ℕ) → s ≡ r + 65535 * q → (0 < s → 0 < r) → rep s ≡ rep r
unfolding rep
rep_same zero zero q e p = refl
rep_same zero (suc r) q e p = absurd (omega arith)
rep_same (suc s) zero q e p = absurd (omega (arith, p (omega arith)))
rep_same (suc s) (suc r) q e p = omega arith

-- It is the one number up to 65535 that differs from the sum by a multiple of 65535 and is above 0 where the sum is.
pub rep_one : (s r q : ℕ) → s ≡ r + 65535 * q → r ≤ 65535 → (0 < s → 0 < r) → rep s ≡ r
rep_one s r q e h p = rep_same s r q e p ∙ rep_fits r h

-- The ones' complement sum of two words is the number of their sum.
⊕-rep : (a b : ℕ) → a ≤ 65535 → b ≤ 65535 → a ⊕ b ≡ rep (a + b)
unfolding ◌⊕◌
⊕-rep a b h k = go (leb (a + b) 65535) refl
  where
    go : (t : Bool) → leb (a + b) 65535 ≡ t → cond t (a + b) (a + b - 65535) ≡ rep (a + b)
    go true e = sym (rep_fits (a + b) (leb-true (a + b) 65535 e))
    go false e = let l = leb-false (a + b) 65535 e in sym (rep_one (a + b) (a + b - 65535) 1 (omega arith) (omega arith) (λ p. omega arith))

-- A word may be added to the number of a sum as well as to the sum.
rep_add : (w s : ℕ) → rep (w + rep s) ≡ rep (w + s)
unfolding rep
rep_add w zero = refl
rep_add w (suc s) = sym (rep_same (w + suc s) (w + suc (s % 65535)) (s / 65535) (omega arith) (λ p. omega arith))

-- One word more.
pub rep_step : (s w : ℕ) → w ≤ 65535 → w ⊕ rep s ≡ rep (w + s)
rep_step s w h = ⊕-rep w (rep s) h (rep_most s) ∙ rep_add w s

-- So it does not matter when the carry is brought round: after every word, or at the end.
pub ones_sum_rep : (ws : List ℕ) → Fit ws → ones_sum ws ≡ rep (total ws)
unfolding rep
ones_sum_rep [] f = refl
ones_sum_rep (w ∷ ws) f = ap (λ (x : ℕ). w ⊕ x) (ones_sum_rep ws f.1) ∙ rep_step (total ws) w f.0

-- Bringing round at the end what is above 16 bits does not change the number of the sum.
pub fold_step : (s : ℕ) → rep (s % 65536 + s / 65536) ≡ rep s
fold_step s = sym (rep_same s (s % 65536 + s / 65536) (s / 65536) (omega arith) (λ p. omega arith))

-- It makes a sum above 16 bits smaller, so that the sum fits in the end and is its own number.
pub fold_falls : (s : ℕ) → 65535 < s → s % 65536 + s / 65536 < s
fold_falls s h = omega arith
