-- The damage that judging sees: an accepted image altered in one byte, or cut short, is refused.
use mathlib.Core.Path.{◌≡◌}
use mathlib.Core.List.{List}
use Prim.Native.Nat.{ℕ, ◌<◌}
use native.Mathlib.Decide.{dec_lt}
use native.Mathlib.Omega.{arith}
use lib.ListN.{length, take}
use Rattle.paper.specs.Words.{Bytes}
use Rattle.paper.specs.Operations.{judge_image_of}
use Rattle.paper.specs.Altered.{Altered}
use Rattle.damage.proofs.Checked.{checked_altered, accepted_checked}
use Rattle.damage.proofs.Prefixes.{prefix_gives_1, prefix_gives_3}

-- Of an accepted image every copy with one byte altered is refused.
pub altered_refused : (b b' : List ℕ) → Bytes b → Bytes b' → judge_image_of b ≡ 0 → Altered b b' → judge_image_of b' ≡ 0 → ⊥
altered_refused b b' h h' e a e' = checked_altered b b' h h' a (accepted_checked b e) (accepted_checked b' e')

-- Of an accepted image every proper beginning is refused.
pub prefix_refused : (b : List ℕ) (p : ℕ) → judge_image_of b ≡ 0 → p < length b → judge_image_of (take p b) ≡ 0 → ⊥
prefix_refused b p e l z = go (dec_lt p 24)
  where
    go : Dec (p < 24) → ⊥
    go (yes h) = omega (arith, prefix_gives_1 b p l h)
    go (no h) = omega (arith, prefix_gives_3 b p e l (omega arith))
