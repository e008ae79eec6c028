-- Bytes placed one behind the other.
use Rattle.std.proofs.Common.{◌≡◌, ℕ, ◌+◌, ◌≤◌, List, ◌++◌, length, ap, ◌∙◌, arith}
use Rattle.paper.specs.Words.{bytes16}
use Rattle.words.specs.Placed.{placed}
use Rattle.words.proofs.Placed.{placed_then}

-- What is placed behind what is placed is placed with it.
pub placed-behind : (room now next a b : List ℕ) (at n : ℕ) → at + length a ≡ n → n ≤ length room → now ≡ placed room at a → next ≡ placed now n b
    → next ≡ placed room at (a ++ b)
placed-behind room now next a b at n e h p q = q ∙ ap (λ (l : List ℕ). placed l n b) p ∙ placed_then room at a n e h b

-- Two numbers of 16 bits, one behind the other.
pub pair_placed : (room now next : List ℕ) (at x y : ℕ) → at + 4 ≤ length room → now ≡ placed room at (bytes16 x) → next ≡ placed now (at + 2) (bytes16 y)
    → next ≡ placed room at (bytes16 x ++ bytes16 y)
unfolding bytes16
pair_placed room now next at x y h p q = placed-behind room now next (bytes16 x) (bytes16 y) at (at + 2) (omega arith) (omega arith) p q
