-- The pairs of one weight taken row by row: what the arrays become.
use mathlib.Core.Path.{◌≡◌, refl, sym, ◌∙◌}
use mathlib.Core.Bool.{Bool, true, false, cond}
use mathlib.Core.List.{List}
use Prim.Native.Nat.{ℕ, zero, suc, ◌+◌, ◌≤◌, ◌<◌}
use native.Mathlib.Numerals.{add-one}
use native.Mathlib.Decide.{ℕ_discrete, dec_lt}
use native.Mathlib.Omega.{arith}
use lib.Dec.{ltb}
use lib.ListN.{get_or}
use borrow.Author.Tests.{le-ltb, ne_eqb}
use Rattle.paper.specs.Forest.{Trees, rest}
use Rattle.paper.specs.Levels.{row, rows}
use Rattle.paper.proofs.Levels.{level}
use Rattle.trees.proofs.Best.{level_of}
use Rattle.joining.specs.Held.{Joined, Whole}
use Rattle.pairs.specs.Taken.{is_taken}
use Rattle.pairs.proofs.Taken.{taken_full}
use Rattle.greedy.specs.Good.{Good, Becomes}
use Rattle.greedy.proofs.Becomes.{becomes_same, becomes_then}
use Rattle.std.proofs.Common.{Option, Some, None, IfSome, unwrap_or}
use Rattle.weights.specs.Next.{Passed, Next}
use Rattle.greedy.proofs.Pair.{pair_dropped, pair_added}

-- A row begins after its first state.
row_skips : (n D : ℕ) (weight : ℕ → ℕ → ℕ) (w u : ℕ) (F : Trees) (j : ℕ) → j ≤ u + 1 → row n D weight w u F j ≡ F
row_skips n D weight w u F zero l = refl
row_skips n D weight w u F (suc j) l = rw (le-ltb u j (omega arith)) (row_skips n D weight w u F j (omega arith))

-- Pairs of another weight make no difference.
row_passes : (n D : ℕ) (weight : ℕ → ℕ → ℕ) (w u : ℕ) (F : Trees) (v v' : ℕ) → v ≤ v' → Passed (weight u) v w v' → row n D weight w u F v' ≡ row n D weight w u F v
row_passes n D weight w u F v zero l P = let e : v ≡ 0 = omega arith in rw e
row_passes n D weight w u F v (suc j) l P =
    elim (ℕ_discrete v (suc j)) [
      | yes e ↦ rw e
      | no e ↦ rw (ne_eqb (weight u j) w (P j (omega arith) (omega arith))) (either (ltb u j) (row n D weight w u F j) ∙ row_passes n D weight w u F v j (omega arith) (λ i h k. P i h (omega arith)))
    ]
  where
    either : (b : Bool) (G : Trees) → cond b G G ≡ G
    either true G = refl
    either false G = refl

module _ (n D : ℕ) (weight : ℕ → ℕ → ℕ) (w : ℕ) (far parent tree : List ℕ) (whole : Whole far parent tree) where
  -- With no row taken the trees are as they were.
  pub rows_start : Becomes n D (λ F. rows n D weight w F 0) far parent tree far parent tree
  rows_start = becomes_same n D far parent tree whole

  -- With no pair of a row taken they are too.
  pub row_starts : (u : ℕ) → Becomes n D (λ F. row n D weight w u F (u + 1)) far parent tree far parent tree
  row_starts u = record { whole = whole; good = λ F G. rw (row_skips n D weight w u F (u + 1) (omega arith)) G }

  -- The row of a state whose distance has reached the bound changes nothing.
  pub row_full : (u : ℕ) → D ≤ get_or far u 0 → Becomes n D (λ F. row n D weight w u F n) far parent tree far parent tree
  row_full u full = record { whole = whole; good = λ F G. go F G n (omega arith) }
    where
      go : (F : Trees) → Good n D F far parent tree → (j : ℕ) → j ≤ n → Good n D (row n D weight w u F j) far parent tree
      go F G zero l = G
      go F G (suc j) l =
          elim (dec_lt u j) [
            | yes h ↦ pair_dropped n D u j h (omega arith) (row n D weight w u F j) far parent tree (go F G j (omega arith)) weight w
                (sym (taken_full (weight u j) w (get_or tree u 0) (get_or tree j 0) (get_or far u 0) (get_or far j 0) D full))
            | no h ↦ rw (le-ltb u j (omega arith)) (go F G j (omega arith))
          ]

module _ (n D : ℕ) (weight : ℕ → ℕ → ℕ) (w u : ℕ) (far₀ parent₀ tree₀ far parent tree : List ℕ) where
  module _ (v : ℕ) (uv : u < v) (vb : v < n) (B : Becomes n D (λ F. row n D weight w u F v) far₀ parent₀ tree₀ far parent tree)
      (b : Bool) (test : b ≡ is_taken (weight u v) w (get_or tree u 0) (get_or tree v 0) (get_or far u 0) (get_or far v 0) D) where
    -- The next pair is dropped.
    pub row_dropped : b ≡ false → Becomes n D (λ F. row n D weight w u F (v + 1)) far₀ parent₀ tree₀ far parent tree
    row_dropped e =
        record {
          whole = B.whole;
          good = λ F G. rw (add-one v) (pair_dropped n D u v uv vb (row n D weight w u F v) far parent tree (B.good F G) weight w (rw e at test));
        }

    -- The next pair is added.
    pub row_added : b ≡ true → (far' parent' tree' : List ℕ) → Joined n u v far parent tree far' parent' tree'
        → Becomes n D (λ F. row n D weight w u F (v + 1)) far₀ parent₀ tree₀ far' parent' tree'
    row_added e far' parent' tree' J =
        record {
          whole = J.whole;
          good = λ F G. rw (add-one v)
              (pair_added n D u v uv vb (row n D weight w u F v) far parent tree (B.good F G) weight w (rw e at test) far' parent' tree' J);
        }

  -- Pairs of another weight are passed over.
  pub row_passed : (v v' : ℕ) → v ≤ v' → Passed (weight u) v w v' → Becomes n D (λ F. row n D weight w u F v) far₀ parent₀ tree₀ far parent tree
      → Becomes n D (λ F. row n D weight w u F v') far₀ parent₀ tree₀ far parent tree
  row_passed v v' l P B = record { whole = B.whole; good = λ F G. rw (row_passes n D weight w u F v v' l P) (B.good F G) }

  -- So they are up to the next pair of the weight, or to the end of the row where there is none.
  pub row_sought : (from : ℕ) (r : Option ℕ) → from ≤ n → Next n (weight u) from w r → Becomes n D (λ F. row n D weight w u F from) far₀ parent₀ tree₀ far parent tree
      → Becomes n D (λ F. row n D weight w u F (unwrap_or r n)) far₀ parent₀ tree₀ far parent tree
  row_sought from None l P B = row_passed from n l P B
  row_sought from (Some v) l P B = row_passed from v P.0 P.3 B

  -- After all pairs of a row one row more is taken.
  pub rows_more : (far' parent' tree' : List ℕ) → Becomes n D (λ F. rows n D weight w F u) far₀ parent₀ tree₀ far parent tree
      → Becomes n D (λ F. row n D weight w u F n) far parent tree far' parent' tree'
      → Becomes n D (λ F. rows n D weight w F (u + 1)) far₀ parent₀ tree₀ far' parent' tree'
  rows_more far' parent' tree' A B =
      rw (add-one u)
      (becomes_then n D (λ F. rows n D weight w F u) (λ F. row n D weight w u F n) far₀ parent₀ tree₀ far parent tree far' parent' tree' A B)

-- The next place that holds a number is behind the places passed.
pub next_behind : (n : ℕ) (line : ℕ → ℕ) (from w : ℕ) (r : Option ℕ) → from ≤ n → Next n line from w r → from ≤ unwrap_or r n
next_behind n line from w None l P = l
next_behind n line from w (Some v) l P = P.0

-- What is known of it, where there is one.
pub next_place : (n : ℕ) (line : ℕ → ℕ) (u from w : ℕ) (r : Option ℕ) → u < from → Next n line from w r → IfSome r (λ v. (u < v) × (v < n) × (line v ≡ w))
next_place n line u from w None l P = tt
next_place n line u from w (Some v) l P = (omega (arith, P.0), P.1, P.2)

-- All rows are what the pairs of the weight make in order 0.
pub rows_end : (n D : ℕ) (weight : ℕ → ℕ → ℕ) (w : ℕ) (far₀ parent₀ tree₀ far parent tree : List ℕ)
    → Becomes n D (λ F. rows n D weight w F n) far₀ parent₀ tree₀ far parent tree → Becomes n D (level_of n (rest 0 n) D weight w) far₀ parent₀ tree₀ far parent tree
rows_end n D weight w far₀ parent₀ tree₀ far parent tree B =
    record { whole = B.whole; good = λ F G. rw (level n D weight w F) (B.good F G) }
