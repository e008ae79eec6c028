-- Places in some bytes, one for each state and one behind the last: how a list of them is filled, and the parts between two. An image and a patch have them alike.
use mathlib.Core.Path.{◌≡◌, ◌∙◌}
use mathlib.Core.List.{List}
use Prim.Native.Nat.{ℕ, ◌+◌, ◌-◌, ◌≤◌, ◌<◌}
use native.Mathlib.Nat.{add_assoc}
use native.Mathlib.Omega.{arith}
use lib.ListN.{length, take, drop, get_or, set, length-set}
use lib.Seq.{get_or-take, get_or-drop}
use Rattle.paper.specs.Words.{number16}
use Rattle.paper.proofs.Filled.{Filled, fill_more}

-- What holds at the head of the loop: the places so far are filled, `at` is the next, and it stands before the trailer.
pub record Begun (place : ℕ → ℕ) (size end n at : ℕ) (begins : List ℕ) (s : ℕ) : Type 0 where
  pub within : s ≤ n
  pub at_is : at ≡ place s
  pub at_in : at + 12 ≤ end
  pub long : length begins ≡ size
  pub filled : Filled place begins s

module _ (place : ℕ → ℕ) {size end n : ℕ} (room : n < size) (inside : (s : ℕ) → s ≤ n → place s + 12 ≤ end) where
  -- No place is filled at the start.
  pub places_start : (at : ℕ) (begins : List ℕ) → at ≡ place 0 → length begins ≡ size → Begun place size end n at begins 0
  places_start at begins e l =
      record {
        within = omega arith;
        at_is = e;
        at_in = omega (arith, e, inside 0 (omega arith));
        long = l;
        filled = λ q h. absurd (omega arith);
      }

  module _ {at : ℕ} {begins : List ℕ} {s : ℕ} (g : Begun place size end n at begins s) where
    -- The list with one place more.
    more : Filled place (set begins s at) (s + 1)
    more = fill_more place begins s at (omega (arith, g.within, g.long)) g.at_is g.filled

    -- One place more is filled in each turn.
    pub places_more : s < n → (next : ℕ) → next ≡ place (s + 1) → Begun place size end n next (set begins s at) (s + 1)
    places_more h next e =
        record {
          within = omega arith;
          at_is = e;
          at_in = omega (arith, e, inside (s + 1) (omega arith));
          long = length-set begins s at ∙ g.long;
          filled = more;
        }

    -- In the end all are, with the place behind the last.
    pub places_done : n ≤ s → (q : ℕ) → q ≤ n → get_or (set begins n at) q 0 ≡ place q
    places_done h q hq = let e : n ≡ s = omega (arith, g.within) in rw e (more q (omega arith))

-- Where a state's entries begin and end, by the list of places, stands in the bytes.
pub record Between (b begins : List ℕ) (s : ℕ) : Type 0 where
  pub rising : get_or begins s 0 ≤ get_or begins (s + 1) 0
  pub inside : get_or begins (s + 1) 0 ≤ length b

module _ (b begins : List ℕ) (s from size : ℕ) (begin : get_or begins s 0 ≡ from) (end : get_or begins (s + 1) 0 ≡ from + size) where
  -- Two places that follow each other in the list stand in the bytes.
  pub places_between : from + size ≤ length b → Between b begins s
  places_between h = record { rising = omega (arith, begin, end); inside = omega (arith, end) }

  -- They tell the part.
  pub places_part : take (get_or begins (s + 1) 0 - get_or begins s 0) (drop (get_or begins s 0) b) ≡ take size (drop from b)
  places_part = let e : get_or begins (s + 1) 0 - get_or begins s 0 ≡ size = omega (arith, begin, end) in rw (e, begin)

-- A number of a part is that of the whole, so far behind the part's begin.
pub number_part : (b : List ℕ) (size from at : ℕ) → at + 1 < size → number16 (take size (drop from b)) at ≡ number16 b (from + at)
unfolding number16
number_part b size from at h =
    let l : at < size = omega arith in
    rw (get_or-take size (drop from b) at 0 l, get_or-take size (drop from b) (at + 1) 0 h, get_or-drop from b at 0, get_or-drop from b (at + 1) 0, add_assoc from at 1)
