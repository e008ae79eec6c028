-- New numbers in arrays: of the names after n rounds, and of a table.
use Rattle.std.specs.Prelude.{◌≡◌, Bool, true, List, ℕ, ◌<◌, eqb, get_or}
use Rattle.paper.specs.Below.{how_many_of}
use Rattle.paper.specs.Table.{states}
use Rattle.paper.specs.FallBack.{levels}
use Rattle.paper.specs.Reduce.{reached}
use Rattle.reduction.specs.Left as left

-- The state names itself.
abbrev pub own : List ℕ → ℕ → Bool
own p x = eqb (get_or p x 0) x

-- The first array holds how many states below each of n states name themselves, the second these states in rising order, and there are so many.
pub record NumbersOf (p : List ℕ) (n : ℕ) (rank old : List ℕ) (count : ℕ) : Type 0 where
  pub ranks : (x : ℕ) → x < n → get_or rank x 0 ≡ how_many_of x (own p)
  pub olds : (y : ℕ) → y < n → own p y ≡ true → get_or old (how_many_of y (own p)) 0 ≡ y
  pub counted : count ≡ how_many_of n (own p)

-- The states left of a table, so many: their old states stand in the array old, and the new number of each reached state at its name in the array rank.
pub record Renumbers (t name rank old : List ℕ) (count : ℕ) : Type 0 where
  pub left_are : count ≡ left.left t (levels t)
  pub olds_are : (s : ℕ) → s < count → get_or old s 0 ≡ left.old t (levels t) s
  pub names_below : (x : ℕ) → reached t (levels t) x ≡ true → get_or name x 0 < states t
  pub new_are : (x : ℕ) → reached t (levels t) x ≡ true → get_or rank (get_or name x 0) 0 ≡ left.new t (levels t) x
