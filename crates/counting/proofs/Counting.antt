-- The columns while a payload is taken: each counts what was taken of the look-ups so far, and the rest goes on from the running state.
use mathlib.Core.Path.{◌≡◌, refl, ◌∙◌}
use mathlib.Core.List.{List, ◌∷◌, map}
use Prim.Native.Nat.{ℕ, zero, suc, ◌+◌, ◌≤◌, ◌<◌}
use native.Mathlib.Omega.{arith}
use lib.ListN.{length, drop, get_or, set, replicate, length-set, length-replicate, drop_of_length-le}
use Rattle.paper.specs.Below.{each}
use Rattle.paper.specs.Words.{byte_at}
use Rattle.paper.specs.View.{Found, look}
use Rattle.paper.specs.Image.{states, start, class_of, image_view}
use Rattle.paper.specs.Programs.{look_ups, served_line, served_lines}
use Rattle.paper.proofs.Below.{each_same}
use Rattle.paper.proofs.Chain.{steps_inside}
use Rattle.facts.proofs.ImageFacts.{AcceptedImage}
use Rattle.facts.proofs.Finds.{look-served}
use Rattle.counting.specs.Columns.{Zeros, look_ups_of, CountsOf, Column, server_of, running_of, columns_line}
use Rattle.counting.proofs.LookUps.{taken_length, taken_next}
use Rattle.counting.proofs.Column.{column_none, column_room, column_more, column_all}

-- In a list of zeros every place holds 0, and behind its end there is 0 too.
get_or_zeros : (n x : ℕ) → get_or {A = ℕ} (replicate n 0) x 0 ≡ 0
get_or_zeros zero x = refl
get_or_zeros (suc n) zero = refl
get_or_zeros (suc n) (suc x) = get_or_zeros n x

-- In an accepted image the state that serves a byte is one of its states.
pub server_inside : (b : List ℕ) → AcceptedImage b → (s x : ℕ) → s < states b → x < 256 → (look (image_view b) s (class_of b x)).server < states b
server_inside b A s x hs hx =
    let f = look (image_view b) s (class_of b x) in
    steps_inside (image_view b) A.right.inside f.hops s f.server hs (look-served b A s x hs hx).reached

-- 512 zeros count nothing.
pub zeros : Zeros (replicate 512 0)
zeros = record { long = length-replicate {A = ℕ} 512 0; zero = λ x. get_or_zeros 512 x }

-- A column so far: what is taken of the look-ups that are left, from the byte at i on and the running state, is still to be counted.
pub record SoFar (of : ℕ × Found → ℕ) (b payload : List ℕ) (state i : ℕ) (counts : List ℕ) : Type 0 where
  pub long : length counts ≡ 512
  pub column : Column counts (map of (look_ups (look (image_view b)) (class_of b) state (drop i payload))) (map of (look_ups_of b payload))

module _ (of : ℕ × Found → ℕ) (b payload : List ℕ) where
  -- At first all are.
  pub so_far_none : (counts : List ℕ) → Zeros counts → SoFar of b payload (start b) 0 counts
  so_far_none counts Z = record { long = Z.long; column = column_none counts (map of (look_ups_of b payload)) Z.zero }

  module _ (state i : ℕ) (h : i < length payload) (counts : List ℕ) (S : SoFar of b payload state i counts) where
    -- What the look-up of the byte at i finds.
    abbrev f : Found
    f = look (image_view b) state (class_of b (byte_at payload i))

    -- What is taken of the look-ups behind it.
    abbrev later : List ℕ
    later = map of (look_ups (look (image_view b)) (class_of b) f.target (drop (i + 1) payload))

    -- The column with that byte's look-up named.
    next : Column counts (of (state, f) ∷ later) (map of (look_ups_of b payload))
    next = rw (taken_next (look (image_view b)) (class_of b) of state payload i h) at S.column

    -- It is counted less often so far than there are bytes.
    pub so_far_room : get_or counts (of (state, f)) 0 < length payload
    so_far_room =
        omega (arith, column_room counts later (map of (look_ups_of b payload)) (of (state, f)) next, taken_length (look (image_view b)) (class_of b) of (start b) payload)

    -- Counted once more, the rest goes on from its target.
    pub so_far_more : of (state, f) < 512 → SoFar of b payload f.target (i + 1) (set counts (of (state, f)) (get_or counts (of (state, f)) 0 + 1))
    so_far_more few =
        record {
          long = length-set counts (of (state, f)) _ ∙ S.long;
          column = column_more counts later (map of (look_ups_of b payload)) (of (state, f)) next (omega (arith, S.long));
        }

  -- With no byte left it counts all.
  pub so_far_all : (state i : ℕ) (counts : List ℕ) → length payload ≤ i → SoFar of b payload state i counts → CountsOf of b payload counts
  so_far_all state i counts h S = record { counts_are = column_all counts (map of (look_ups_of b payload)) (rw (drop_of_length-le payload h) at S.column) }

-- Two columns that count all make the lines of the definition.
pub lines_are : {b payload served ran : List ℕ} (n : ℕ) → n ≡ states b → CountsOf server_of b payload served → CountsOf running_of b payload ran → each n (columns_line served ran) ≡ served_lines b payload
unfolding served_lines
lines_are {b} {payload} {served} {ran} n e S R = rw e (each_same (states b) (columns_line served ran) (served_line (look_ups_of b payload)) (λ s h. rw (S.counts_are s, R.counts_are s)))
