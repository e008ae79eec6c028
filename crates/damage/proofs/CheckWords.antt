-- Laws of the check word of a list of words.
use mathlib.Core.Path.{◌≡◌}
use mathlib.Core.List.{List}
use Prim.Native.Nat.{ℕ, suc, ◌+◌, ◌*◌, ◌<◌}
use native.Mathlib.Omega.{arith}
use Rattle.paper.specs.Words.{check_word_of}
use Rattle.paper.proofs.Words.{Fit, total, rep_multiple, rep_most, rep_above, rep_one, ones_sum_rep}

-- The words together with their check word sum to a multiple of 65535.
pub total_check_word : (ws : List ℕ) → Fit ws → (q : ℕ) × (total ws + check_word_of ws ≡ 65535 * q)
unfolding check_word_of
total_check_word ws f = let m = rep_multiple (total ws) in (suc m.0, omega (arith, m.1, rep_most (total ws), ones_sum_rep ws f))

-- Words that sum to 65535 or a greater multiple of it have the check word 0: such a sum stays 65535 and does not become 0.
pub check_word_zero : (ws : List ℕ) (q : ℕ) → Fit ws → total ws ≡ 65535 * suc q → check_word_of ws ≡ 0
unfolding check_word_of
check_word_zero ws q f e = omega (arith, ones_sum_rep ws f, rep_one (total ws) 65535 q (omega arith) (omega arith) (λ p. omega arith))

-- Words with a sum above 0 have a check word below 65535, so 65535 is the check word of no words or words 0 alone.
pub check_word_below : (ws : List ℕ) → Fit ws → 0 < total ws → check_word_of ws < 65535
unfolding check_word_of
check_word_below ws f h = omega (arith, ones_sum_rep ws f, rep_above (total ws) h)
