-- Laws of bytes placed in a room: the room keeps its length and what stands before and after the place, and places compose.
use Rattle.std.proofs.Common.{◌≡◌, ℕ, ◌+◌, ◌-◌, ◌≤◌, List, [], ◌++◌, length, take, drop, refl, ap, ◌∙◌, append_assoc, add-zero, add_assoc, zero-add, arith, length-append, length-drop, take-append-drop, length-take, length-take-le, take-take, drop-drop, take_at, drop_at}
use lib.Seq.{take-append-le}
use Rattle.words.specs.Placed.{placed}

-- With nothing placed the room is as it was.
pub placed_nothing : (room : List ℕ) (at : ℕ) → placed room at [] ≡ room
unfolding placed
placed_nothing room at = rw add-zero (take-append-drop at room)

-- At the front what is placed stands first, and the rest of the room stays.
pub placed-front : (room bs : List ℕ) → placed room 0 bs ≡ bs ++ drop (length bs) room
unfolding placed
placed-front room bs = rw (zero-add (length bs))

-- The room keeps its length.
pub length-placed : (room : List ℕ) (at : ℕ) (bs : List ℕ) → at + length bs ≤ length room → length (placed room at bs) ≡ length room
unfolding placed
length-placed room at bs h = simp (length-append, length-take, length-drop) (omega arith)

-- What stands before the place stays.
pub take-placed : (room : List ℕ) (at : ℕ) (bs : List ℕ) (n : ℕ) → n ≤ at → at ≤ length room → take n (placed room at bs) ≡ take n room
unfolding placed
take-placed room at bs n l h =
    take-append-le n (take at room) (bs ++ drop (at + length bs) room) (omega (arith, length-take-le at room h)) ∙ take-take n at room l

-- Behind a front of n bytes.
placed-behind : (p q bs : List ℕ) (n : ℕ) → length p ≡ n → placed (p ++ q) n bs ≡ p ++ (bs ++ drop (length bs) q)
unfolding placed
placed-behind p q bs n e = rw (take_at p q n e, ← drop-drop (length bs) n (p ++ q), drop_at p q n e)

module _ (room : List ℕ) (at : ℕ) (a : List ℕ) (n : ℕ) (e : at + length a ≡ n) (h : n ≤ length room) where
  -- What stands up to the place's end has n bytes.
  length_up_to : length (take at room ++ a) ≡ n
  length_up_to = simp (length-append, length-take) (omega arith)

  -- The room is what stands up to the place's end, and then what stood behind that.
  placed_cut : placed room at a ≡ (take at room ++ a) ++ drop n room
  unfolding placed
  placed_cut = rw (e, append_assoc)

  -- One place after another is the place of both.
  pub placed_then : (b : List ℕ) → placed (placed room at a) n b ≡ placed room at (a ++ b)
  unfolding placed
  placed_then b =
      ap (λ (r : List ℕ). placed r n b) placed_cut
      ∙ placed-behind (take at room ++ a) (drop n room) b n length_up_to
      ∙ rw (← e) (simp (append_assoc, drop-drop, length-append, add_assoc))

  -- What stands after the place stays, so many bytes behind its end.
  drop-behind : (m : ℕ) → drop (n + m) (placed room at a) ≡ drop (n + m) room
  drop-behind m = rw (placed_cut, ← drop-drop m n, drop_at (take at room ++ a) (drop n room) n length_up_to, drop-drop)

-- What stands after the place stays.
pub drop-placed : (room : List ℕ) (at : ℕ) (bs : List ℕ) (n : ℕ) → at + length bs ≤ n → at + length bs ≤ length room → drop n (placed room at bs) ≡ drop n room
drop-placed room at bs n l h =
    let end = at + length bs in
    let e : end + (n - end) ≡ n = omega arith in rw e at (drop-behind room at bs end refl h (n - end))
