-- Pieces put one behind the other are the piece of both.
use Rattle.std.proofs.Common.{◌≡◌, ℕ, ◌+◌, ◌≤◌, List, [], ◌++◌, length, take, drop, refl, sym, ap, ◌∙◌, append_assoc, length-append, length-take-le, take_at, arith}
use Rattle.io.specs.Counts.{IsPrefixLen}
use Rattle.words.specs.Placed.{placed}
use Rattle.words.proofs.Placed.{placed_nothing, placed-front, length-placed, placed_then}
use Rattle.text.specs.Puts.{Holds, Puts}

-- With nothing put the room is as it was.
pub puts_none : (room : List ℕ) (at : ℕ) → Puts room at [] room at
puts_none room at = record { ends = omega arith; placed_is = sym (placed_nothing room at) }

-- A room that holds two pieces holds the first.
pub holds_first : (room : List ℕ) (at : ℕ) (a b : List ℕ) → Holds room at (a ++ b) → Holds room at a
holds_first room at a b h = omega (arith, length-append a b)

module _ {room : List ℕ} {at : ℕ} {a mid : List ℕ} {here : ℕ} (P : Puts room at a mid here) where
  -- The room keeps its length.
  pub puts_long : Holds room at a → length mid ≡ length room
  puts_long h = ap length P.placed_is ∙ length-placed room at a h

  -- Behind the first piece it holds the second.
  pub holds_then : (b : List ℕ) → Holds room at (a ++ b) → Holds mid here b
  holds_then b h = omega (arith, P.ends, length-append a b, puts_long (holds_first room at a b h))

  -- With the second put behind the first both are put.
  pub puts_then : {b after : List ℕ} {r : ℕ} → Holds room at (a ++ b) → Puts mid here b after r → Puts room at (a ++ b) after r
  puts_then {b} h Q =
      record {
        ends = omega (arith, P.ends, Q.ends, length-append a b);
        placed_is = Q.placed_is
            ∙ ap (λ (l : List ℕ). placed l here b) P.placed_is
            ∙ placed_then room at a here (sym P.ends) (omega (arith, P.ends, length-append a b)) b;
      }

-- The same where the last answer is in the room.
pub puts_both : {room : List ℕ} {at : ℕ} {a mid : List ℕ} {here : ℕ} {b after : List ℕ} {r : ℕ} → Puts room at a mid here → Puts mid here b after r → r ≤ length room → Puts room at (a ++ b) after r
puts_both {a = a} {b = b} P Q h = puts_then P (omega (arith, P.ends, Q.ends, length-append a b)) Q

-- What is put at the front is what stands before the answer.
pub puts_front : {room piece after : List ℕ} {r : ℕ} → Puts room 0 piece after r → Holds room 0 piece → IsPrefixLen r after × (take r after ≡ piece)
puts_front {room} {piece} {after} {r} P h =
    let long = puts_long P h in
    let front : after ≡ piece ++ drop (length piece) room = P.placed_is ∙ placed-front room piece in
    let e : take r after ≡ piece = rw front (take_at piece (drop (length piece) room) r (omega (arith, P.ends))) in
    ((omega (arith, P.ends), omega (arith, P.ends, ap length e)), e)

-- A text that ends where a piece is put goes on with the piece.
pub puts_behind : {room piece after : List ℕ} {at r : ℕ} → Puts room at piece after r → at ≤ length room → take r after ≡ take at room ++ piece
unfolding placed
puts_behind {room} {piece} {after} {at} {r} P h =
    rw (P.placed_is, ← append_assoc (take at room) piece (drop (at + length piece) room))
    (take_at (take at room ++ piece) (drop (at + length piece) room) r (omega (arith, P.ends, length-append (take at room) piece, length-take-le at room h)))

-- Of a whole text what is done stands in the room, and the rest is to come.
pub record SoFar (room : List ℕ) (at : ℕ) (whole after : List ℕ) (here : ℕ) (rest : List ℕ) : Type 0 where
  pub done : List ℕ
  pub puts : Puts room at done after here
  pub whole_is : done ++ rest ≡ whole

-- At first nothing is done.
pub so_far_none : (room : List ℕ) (at : ℕ) (whole : List ℕ) → SoFar room at whole room at whole
so_far_none room at whole = record { done = []; puts = puts_none room at; whole_is = refl }

module _ {room : List ℕ} {at : ℕ} {whole after : List ℕ} {here : ℕ} {rest : List ℕ} (S : SoFar room at whole after here rest) (h : Holds room at whole) where
  -- The room holds what is done and the rest.
  holds_all : Holds room at (S.done ++ rest)
  holds_all = rw S.whole_is h

  -- The room keeps its length.
  pub so_far_long : length after ≡ length room
  so_far_long = puts_long S.puts (holds_first room at S.done rest holds_all)

  -- The room holds the rest.
  pub so_far_holds : Holds after here rest
  so_far_holds = holds_then S.puts rest holds_all

  -- One piece more.
  pub so_far_more : (a later : List ℕ) {next : List ℕ} {there : ℕ} → rest ≡ a ++ later → Puts after here a next there → SoFar room at whole next there later
  so_far_more a later e P =
      let same : (S.done ++ a) ++ later ≡ whole = append_assoc S.done a later ∙ ap (λ (l : List ℕ). S.done ++ l) (sym e) ∙ S.whole_is in
      let fits : Holds room at (S.done ++ a) = holds_first room at (S.done ++ a) later (rw same h) in
      record { done = S.done ++ a; puts = puts_then S.puts fits P; whole_is = same }

  -- The last piece.
  pub so_far_all : {next : List ℕ} {there : ℕ} → Puts after here rest next there → Puts room at whole next there
  so_far_all P = rw S.whole_is at (puts_then S.puts holds_all P)
