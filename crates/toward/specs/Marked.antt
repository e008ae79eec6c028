-- Levels in an array, 65535 for a state that has none, and what a round makes of them.
use Rattle.std.specs.Prelude.{◌≡◌, Bool, cond, ◌&&◌, List, ℕ, ◌<◌, eqb, length, get_or}
use Rattle.std.proofs.Math.Option.{none}
use Rattle.paper.specs.Below.{any, or}
use Rattle.paper.specs.FallBack.{leads_to, levels}

-- The level of a state in an array.
abbrev pub level_in : List ℕ → ℕ → ℕ
level_in levels s = get_or levels s 0

-- A level after a mark: the mark where the test passes and there was no level, else what there was.
abbrev pub marked : ℕ → Bool → ℕ → ℕ
marked old test mark = cond (test && eqb old 65535) mark old

-- The new array has the mark for each state that passes the test and had no level, and else what the old one has.
pub record Marked (old new : List ℕ) (test : ℕ → Bool) (mark : ℕ) : Type 0 where
  pub long : length new ≡ 512
  pub each_is : (x : ℕ) → get_or new x 0 ≡ marked (get_or old x 0) (test x) mark

-- Some state below n that has this level in the array leads to x.
abbrev pub finds : List ℕ → List ℕ → ℕ → ℕ → ℕ → Bool
finds t levels level n x = any n (λ s. eqb (get_or levels s 0) level && leads_to t s x)

-- Some state below n has this level in the array.
abbrev pub has : List ℕ → ℕ → ℕ → Bool
has levels level n = any n (λ s. eqb (get_or levels s 0) level)

-- The array holds the level of each state below n of the table t.
abbrev pub LevelsIn : List ℕ → ℕ → List ℕ → Type 0
LevelsIn t n array = (x : ℕ) → x < n → get_or array x 0 ≡ or (get_or (levels t) x none) 65535
