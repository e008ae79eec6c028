-- The trailer of an image, number by number.
use mathlib.Core.Path.{◌≡◌, refl}
use mathlib.Core.List.{List, ◌++◌}
use Prim.Native.Nat.{ℕ, ◌+◌, ◌*◌, ◌≤◌}
use native.Mathlib.Omega.{arith}
use lib.ListN.{length}
use Rattle.paper.specs.Words.{bytes16, bytes32}
use Rattle.paper.specs.Image.{image_length_of}
use Rattle.paper.specs.Results.{trailer}
use Rattle.words.specs.Placed.{placed}
use Rattle.words.proofs.Behind.{placed-behind}

-- The three numbers of the trailer.
pub trailer-placed : (r₀ r₁ r₂ r₃ : List ℕ) (at n m held whole worst : ℕ) → at + 10 ≤ length r₀ → whole ≡ image_length_of n m held → r₁ ≡ placed r₀ at (bytes32 (4 * m + 12))
    → r₂ ≡ placed r₁ (at + 4) (bytes32 whole) → r₃ ≡ placed r₂ (at + 8) (bytes16 worst) → r₃ ≡ placed r₀ at (trailer n m held worst)
unfolding trailer bytes16 bytes32
trailer-placed r₀ r₁ r₂ r₃ at n m held whole worst h w e₁ e₂ e₃ =
    rw (← w)
    (placed-behind r₀ r₂ r₃ (bytes32 (4 * m + 12) ++ bytes32 whole) (bytes16 worst) at (at + 8) (omega arith) (omega arith)
    (placed-behind r₀ r₁ r₂ (bytes32 (4 * m + 12)) (bytes32 whole) at (at + 4) (omega arith) (omega arith) e₁ e₂) e₃)

-- It takes 10 bytes before the check word.
pub length-trailer : (n m held worst : ℕ) → length (trailer n m held worst) ≡ 10
unfolding trailer bytes16 bytes32
length-trailer n m held worst = refl
