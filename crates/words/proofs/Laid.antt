-- A row of parts placed one by one in a room.
use Rattle.std.proofs.Common.{◌≡◌, ℕ, zero, suc, ◌+◌, ◌<◌, ◌≤◌, List, length, sym, refl, ap, ◌∙◌, add-one, arith, length-append}
use Rattle.paper.specs.Below.{each, sum}
use Rattle.paper.proofs.Sums.{sum-before}
use Rattle.words.specs.Placed.{placed}
use Rattle.words.proofs.Placed.{placed_nothing, length-placed, placed_then}

-- The first i parts of a row are placed in the room from `at` on, and end at `here`.
pub record Laid (room : List ℕ) (at : ℕ) (f : ℕ → List ℕ) (i : ℕ) (now : List ℕ) (here : ℕ) : Type 0 where
  pub ends : here ≡ at + length (each i f)
  pub as_long : length now ≡ length room
  pub laid : now ≡ placed room at (each i f)

-- A row is as long as its parts together.
row-length : (f : ℕ → List ℕ) (n : ℕ) → length (each n f) ≡ sum n (λ i. length (f i))
row-length f zero = refl
row-length f (suc n) = length-append (each n f) (f n) ∙ ap (λ (x : ℕ). x + length (f n)) (row-length f n)

-- At first nothing is placed.
pub laid_none : (room : List ℕ) (at : ℕ) (f : ℕ → List ℕ) (here : ℕ) → here ≡ at → Laid room at f 0 room here
laid_none room at f here e = record { ends = omega arith; as_long = refl; laid = sym (placed_nothing room at) }

module _ {room : List ℕ} {at : ℕ} {f : ℕ → List ℕ} {i : ℕ} {now : List ℕ} {here : ℕ} (L : Laid room at f i now here) (n : ℕ) (less : i < n) (fits : at + length (each n f) ≤ length room) where
  -- There is room for the next part.
  pub laid_room : here + length (f i) ≤ length now
  laid_room = omega (arith, L.ends, L.as_long, row-length f i, row-length f n, sum-before n i (λ i. length (f i)) less)

  -- With the next part placed behind them there is one more.
  pub laid_more : (next : List ℕ) (there : ℕ) → there ≡ here + length (f i) → next ≡ placed now here (f i) → Laid room at f (i + 1) next there
  laid_more next there e q =
      let fit = laid_room in
      rw (add-one i)
      (record {
        ends = omega (arith, L.ends, length-append (each i f) (f i));
        as_long = ap length q ∙ length-placed now here (f i) fit ∙ L.as_long;
        laid = q ∙ ap (λ (l : List ℕ). placed l here (f i)) L.laid ∙ placed_then room at (each i f) here (sym L.ends) (omega (arith, L.as_long)) (f i);
      })
