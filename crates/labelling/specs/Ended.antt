-- The names of states as parts of a word list, how many strings end each, and the bytes of their labels.
use Rattle.std.specs.Prelude.{List, ℕ, get_or}
use Rattle.paper.specs.Below.{how_many_of}
use Rattle.paper.specs.Words.{all16}
use Rattle.paper.specs.Strings.{rules, string, ends, labels_ending}
use Rattle.strings.proofs.Parts.{part}

-- The name of a state.
abbrev pub name_at : List ℕ → List ℕ → List ℕ → ℕ → List ℕ
name_at b from long s = part b (get_or from s 0) (get_or long s 0)

-- How many strings end the name of a state.
abbrev pub ended_by : List ℕ → ℕ → List ℕ → List ℕ → ℕ → ℕ
ended_by b count from long s = how_many_of count (λ i. ends (string b i) (name_at b from long s))

-- The bytes of the labels of all strings that end the name of a state, rising.
abbrev pub labels_at : List ℕ → List ℕ → List ℕ → ℕ → List ℕ
labels_at b from long s = all16 (labels_ending (rules b) (name_at b from long s))
