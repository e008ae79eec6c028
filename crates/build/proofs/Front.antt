-- The front of an image, number by number.
use mathlib.Core.Path.{◌≡◌, refl}
use mathlib.Core.List.{List, ◌++◌}
use Prim.Native.Nat.{ℕ, ◌≤◌}
use native.Mathlib.Omega.{arith}
use lib.ListN.{length}
use Rattle.paper.specs.Words.{bytes16, bytes32}
use Rattle.paper.specs.Labels.{Edition, first_word}
use Rattle.paper.specs.Results.{front}
use Rattle.words.specs.Placed.{placed}
use Rattle.words.proofs.Behind.{placed-behind}

-- The five numbers of the front.
pub front-placed : (r₀ r₁ r₂ r₃ r₄ r₅ : List ℕ) (e : Edition) (word n k start depth m : ℕ) → 12 ≤ length r₀ → r₁ ≡ placed r₀ 0 (bytes16 word) → word ≡ first_word e n → r₂ ≡ placed r₁ 2 (bytes16 k)
    → r₃ ≡ placed r₂ 4 (bytes16 start) → r₄ ≡ placed r₃ 6 (bytes16 depth) → r₅ ≡ placed r₄ 8 (bytes32 m) → r₅ ≡ placed r₀ 0 (front e n k start depth m)
unfolding front bytes16 bytes32
front-placed r₀ r₁ r₂ r₃ r₄ r₅ e word n k start depth m h e₁ w e₂ e₃ e₄ e₅ =
    let a = bytes16 word in
    let b = a ++ bytes16 k in
    let c = b ++ bytes16 start in
    rw (← w)
    (placed-behind r₀ r₄ r₅ (c ++ bytes16 depth) (bytes32 m) 0 8 refl (omega arith)
    (placed-behind r₀ r₃ r₄ c (bytes16 depth) 0 6 refl (omega arith)
    (placed-behind r₀ r₂ r₃ b (bytes16 start) 0 4 refl (omega arith)
    (placed-behind r₀ r₁ r₂ a (bytes16 k) 0 2 refl (omega arith) e₁ e₂) e₃) e₄) e₅)
