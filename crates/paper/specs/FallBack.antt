-- Order 3: each state falls back only to a state nearer the start.
use Rattle.std.specs.Prelude.{Bool, true, false, cond, ◌&&◌, List, ℕ, zero, suc, ltb, leb, eqb, get_or}
use Rattle.std.proofs.Math.Option.{Option, none, some}
use Rattle.paper.specs.Below.{every, any, list, when, or_else, given, first_of}
use Rattle.paper.specs.Table.{states, classes, start, next, shared}

-- A level is lower than another; a state that is not reached has none.
abbrev pub lower : Option ℕ → Option ℕ → Bool
lower none b = false
lower (some a) none = false
lower (some a) (some b) = ltb a b

module _ (t : List ℕ) where
  -- Some class, and so some byte, leads from s to x.
  abbrev pub leads_to : ℕ → ℕ → Bool
  leads_to s x = any (classes t) (λ c. eqb (next t s c) x)

  -- The level of each state that is reached from the start state within so many bytes: a state first reached from those of the round before is one byte farther.
  abbrev pub levels_within : ℕ → List (Option ℕ)
  levels_within zero = list (states t) (λ x. when (eqb x (start t)) 0)
  levels_within (suc bytes) =
      let ls = levels_within bytes in
      list (states t) (λ x. or_else (get_or ls x none) (when (any (states t) (λ s. given (get_or ls s none) && leads_to s x)) (suc bytes)))

  -- The level of each state, the fewest bytes from the start state to it; fewer than n bytes reach every state that can be reached.
  unfoldable pub levels : List (Option ℕ)
  levels = levels_within (states t)

  module _ (level : ℕ → Option ℕ) where
    -- No state of lower level than x shares more next states with x than y does.
    abbrev pub shares_most : ℕ → ℕ → Bool
    shares_most x y = every (states t) (λ z. cond (lower (level z) (level x)) (leb (shared t x z) (shared t x y)) true)

    -- The default of x: the state of lower level that shares the most next states with x, at least two classes, of several the smallest.
    abbrev pub best_below : ℕ → Option ℕ
    best_below x = first_of (states t) (λ y. when (lower (level y) (level x) && (leb 2 (shared t x y) && shares_most x y)) y)

  -- The default of each state in order 3.
  unfoldable pub toward_start : ℕ → Option ℕ
  toward_start =
      let ls = levels in
      best_below (λ s. get_or ls s none)

  -- The level of a state, none where no payload leads to it.
  abbrev pub level : ℕ → Option ℕ
  level x = get_or levels x none
