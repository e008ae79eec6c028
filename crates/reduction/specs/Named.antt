-- Names of blocks in an array, round by round: the name of a block is its smallest reached state.
use Rattle.std.specs.Prelude.{◌≡◌, Bool, true, false, not, cond, ◌&&◌, List, ℕ, suc, ◌<◌, eqb, get_or}
use Rattle.paper.specs.Below.{same, when, or, first_of}
use Rattle.paper.specs.Table.{states, labels}
use Rattle.paper.specs.FallBack.{levels}
use Rattle.paper.specs.Reduce.{reached, alike, blocks}

-- The array holds the block of each reached state after i rounds, 65535 at the others.
pub record Named (t : List ℕ) (i : ℕ) (p : List ℕ) : Type 0 where
  pub names : (x : ℕ) → reached t (levels t) x ≡ true → get_or p x 0 ≡ get_or (blocks t (levels t) i) x 0
  pub others : (x : ℕ) → x < states t → reached t (levels t) x ≡ false → get_or p x 0 ≡ 65535

-- The name by labels: the first reached state with the same labels, 65535 where the state is not reached.
unfoldable pub first_name_of : List ℕ → ℕ → ℕ
first_name_of t x = cond (reached t (levels t) x) (get_or (blocks t (levels t) 0) x 0) 65535

-- An array has 65535 just for the states that are not reached.
abbrev pub MarksReached : List ℕ → List ℕ → Type 0
MarksReached t array = (x : ℕ) → x < states t → eqb (get_or array x 0) 65535 ≡ not (reached t (levels t) x)

-- The state y is reached and has the labels of x.
abbrev pub labelled_as : List ℕ → ℕ → ℕ → Bool
labelled_as t x y = reached t (levels t) y && same (labels t x) (labels t y)

-- No state below y is so.
abbrev pub NoneLabelled : List ℕ → ℕ → ℕ → Type 0
NoneLabelled t x y = (z : ℕ) → z < y → labelled_as t x z ≡ false

-- The names are those of some round.
abbrev pub SomeRound : List ℕ → List ℕ → Type 0
SomeRound t p = (i : ℕ) × Named t i p

-- The second array is one round further than the first.
abbrev pub Refines : List ℕ → List ℕ → List ℕ → Type 0
Refines t p r = (i : ℕ) → Named t i p → Named t (suc i) r

module _ (t p : List ℕ) where
  -- By the array two states have one name, and so have their next states on every class.
  abbrev pub meets : ℕ → ℕ → Bool
  meets x y = alike t (levels t) p x y

  -- No state below y is so with x.
  abbrev pub NoneBelow : ℕ → ℕ → Type 0
  NoneBelow x y = (z : ℕ) → z < y → meets x z ≡ false

  -- The first state up to x that is so with x.
  unfoldable pub first_alike_of : ℕ → ℕ
  first_alike_of x = or (first_of x (λ y. when (meets x y) y)) x

  -- The name of x after the round, 65535 where it has none.
  unfoldable pub name_after_of : ℕ → ℕ
  name_after_of x = cond (eqb (get_or p x 0) 65535) 65535 (first_alike_of x)
