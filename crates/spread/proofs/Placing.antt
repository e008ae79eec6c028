-- The bytes of a room in which bytes are placed, and the numbers of one in which a number is placed.
use mathlib.Core.Path.{◌≡◌, sym, ap, ap₂, ◌∙◌}
use mathlib.Core.List.{List, ◌++◌}
use Prim.Native.Nat.{ℕ, ◌+◌, ◌*◌, ◌/◌, ◌%◌, ◌≤◌, ◌<◌}
use native.Mathlib.Nat.{add-zero}
use native.Mathlib.Omega.{arith}
use lib.ListN.{length, take, drop}
use lib.Seq.{get_or-take, get_or-drop, take-append-le, drop_at, length-take-le}
use Rattle.paper.specs.Words.{byte_at, number16, bytes16}
use Rattle.words.specs.Placed.{placed}
use Rattle.words.proofs.Placed.{take-placed, drop-placed}

-- Two numbers of 16 bits whose bytes are the same are the same.
pub number_same : (a b : List ℕ) (i j : ℕ) → byte_at a i ≡ byte_at b j → byte_at a (i + 1) ≡ byte_at b (j + 1) → number16 a i ≡ number16 b j
unfolding number16
number_same a b i j e q = ap₂ (λ (x y : ℕ). x + 256 * y) e q

module _ (room : List ℕ) (at : ℕ) (bs : List ℕ) (h : at + length bs ≤ length room) where
  -- A byte before the place stays.
  pub byte_before : (i : ℕ) → i < at → byte_at (placed room at bs) i ≡ byte_at room i
  byte_before i l =
      let t : take (i + 1) (placed room at bs) ≡ take (i + 1) room = take-placed room at bs (i + 1) (omega arith) (omega arith) in
      sym (get_or-take (i + 1) (placed room at bs) i 0 (omega arith)) ∙ ap (λ (l : List ℕ). byte_at l i) t ∙ get_or-take (i + 1) room i 0 (omega arith)

  -- A byte behind the place stays.
  pub byte_behind : (i : ℕ) → at + length bs ≤ i → byte_at (placed room at bs) i ≡ byte_at room i
  byte_behind i l =
      let first : (l : List ℕ) → byte_at (drop i l) 0 ≡ byte_at l i = λ l. get_or-drop i l 0 0 ∙ ap (byte_at l) (add-zero i) in
      sym (first (placed room at bs)) ∙ ap (λ (l : List ℕ). byte_at l 0) (drop-placed room at bs i l h) ∙ first room

  -- A byte of the place is the one that is placed there.
  pub byte_within : (i : ℕ) → i < length bs → byte_at (placed room at bs) (at + i) ≡ byte_at bs i
  unfolding placed
  byte_within i l =
      let rest = drop (at + length bs) room in
      let e : drop at (take at room ++ (bs ++ rest)) ≡ bs ++ rest = drop_at (take at room) (bs ++ rest) at (length-take-le at room (omega arith)) in
      let t : take (length bs) (bs ++ rest) ≡ take (length bs) bs = take-append-le (length bs) bs rest (omega arith) in
      sym (get_or-drop at (take at room ++ (bs ++ rest)) i 0) ∙ ap (λ (l : List ℕ). byte_at l i) e
      ∙ sym (get_or-take (length bs) (bs ++ rest) i 0 l) ∙ ap (λ (l : List ℕ). byte_at l i) t ∙ get_or-take (length bs) bs i 0 l

-- A number that is placed is read.
pub number_placed : (room : List ℕ) (at x : ℕ) → at + 1 < length room → x < 65536 → number16 (placed room at (bytes16 x)) at ≡ x
unfolding number16 bytes16
number_placed room at x h small =
    let low : byte_at (placed room at (bytes16 x)) at ≡ x % 256 = ap (byte_at (placed room at (bytes16 x))) (sym (add-zero at)) ∙ byte_within room at (bytes16 x) (omega arith) 0 (omega arith) in
    let high : byte_at (placed room at (bytes16 x)) (at + 1) ≡ x / 256 % 256 = byte_within room at (bytes16 x) (omega arith) 1 (omega arith) in
    omega arith
