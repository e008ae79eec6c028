-- Bytes stored one by one are placed.
use Rattle.std.proofs.Common.{◌≡◌, ℕ, ◌+◌, ◌/◌, ◌%◌, ◌<◌, List, [], ◌∷◌, ◌++◌, length, get_or, take, drop, set, ◌∙◌, add-one, arith, length-drop, length-take-le, get_or-drop, take-suc}
use lib.Seq.{set_split}
use Rattle.paper.specs.Words.{bytes16, bytes32}
use Rattle.words.specs.Placed.{placed}
use Rattle.words.proofs.Placed.{length-placed, placed_then}

-- One byte stored.
pub set-placed : (room : List ℕ) (at x : ℕ) → at < length room → set room at x ≡ placed room at (x ∷ [])
unfolding placed
set-placed room at x h = rw (add-one at) (set_split room at x h)

-- One byte more stored behind bytes that are placed.
set-behind : (room : List ℕ) (at : ℕ) (bs : List ℕ) (n x : ℕ) → at + length bs ≡ n → n < length room → set (placed room at bs) n x ≡ placed room at (bs ++ (x ∷ []))
set-behind room at bs n x e h =
    set-placed (placed room at bs) n x (omega (arith, length-placed room at bs (omega arith))) ∙ placed_then room at bs n e (omega arith) (x ∷ [])

-- The two bytes of a number of 16 bits.
pub written16 : (room : List ℕ) (at x : ℕ) → at + 1 < length room → x < 65536 → set (set room at (x % 256)) (at + 1) (x / 256) ≡ placed room at (bytes16 x)
unfolding bytes16
written16 room at x h l =
    let e : x / 256 % 256 ≡ x / 256 = omega arith in
    let h₀ : at < length room = omega arith in
    rw (e, set-placed room at (x % 256) h₀) (set-behind room at (x % 256 ∷ []) (at + 1) (x / 256) (omega arith) h)

-- The two halves of a number of 32 bits.
pub written32 : (room half whole : List ℕ) (at x : ℕ) → at + 3 < length room → half ≡ placed room at (bytes16 (x % 65536)) → whole ≡ placed half (at + 2) (bytes16 (x / 65536))
    → whole ≡ placed room at (bytes32 x)
unfolding bytes16 bytes32
written32 room half whole at x h e q = q ∙ rw e (placed_then room at (bytes16 (x % 65536)) (at + 2) (omega arith) (omega arith) (bytes16 (x / 65536)))

-- One byte more copied.
pub copied : (room now from : List ℕ) (at start i : ℕ) → at + i < length room → start + i < length from → now ≡ placed room at (take i (drop start from))
    → set now (at + i) (get_or from (start + i) 0) ≡ placed room at (take (i + 1) (drop start from))
copied room now from at start i h k e =
    let l : i < length (drop start from) = rw (length-drop start from) (omega arith) in
    rw e
    (set-behind room at (take i (drop start from)) (at + i) (get_or from (start + i) 0) (omega (arith, length-take-le i (drop start from) (omega arith))) h
    ∙ rw (add-one i, take-suc (drop start from) i 0 l, get_or-drop))
