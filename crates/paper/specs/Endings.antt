-- What a state of a word list's table stands for, by beginnings and endings: no state, no number and no algorithm is in it.
use Rattle.std.specs.Prelude.{◌≡◌, List, ◌++◌, ℕ, ◌≤◌, length}
use Rattle.paper.specs.Strings as list
use Rattle.paper.specs.Sentences.{Some}

-- The first string is an ending of the second.
abbrev pub EndingOf : List ℕ → List ℕ → Type 0
EndingOf v w = (u : List ℕ) × (w ≡ u ++ v)

-- The string begins some string of a word list.
abbrev pub BeginsSome : List ℕ → List ℕ → Type 0
BeginsSome b w = Some (list.count b) (λ i. (u : List ℕ) × (list.string b i ≡ w ++ u))

-- The longest ending of w that begins some string of a word list is e.
pub record IsLongest (b w e : List ℕ) : Type 0 where
  pub ending : EndingOf e w
  pub begins : BeginsSome b e
  pub longest : (v : List ℕ) → EndingOf v w → BeginsSome b v → length v ≤ length e
