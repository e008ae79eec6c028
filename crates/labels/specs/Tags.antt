-- The tag of a state, and the labels that it stands for.
use Rattle.std.specs.Prelude.{◌≡◌, List, ℕ, zero, suc, ◌+◌, ◌*◌, ◌<◌, get_or}
use Rattle.paper.specs.Below.{sum, list}
use Rattle.paper.specs.Words.{number16}
use Rattle.paper.specs.Labels.{Edition, one, two, label_list, label_count}

-- The tag of a state is the number that stands in the place of its label: in edition 1 its label, 0 for none; in edition 2 how many labels it has.
abbrev pub tag_of : List ℕ → ℕ → ℕ → ℕ
tag_of b at s = number16 b (at + 2 * s)

-- How many labels a tag stands for.
abbrev pub many_of : Edition → ℕ → ℕ
many_of one zero = 0
many_of one (suc l) = 1
many_of two count = count

-- So many numbers of 16 bits, one behind the other from a place on.
abbrev pub numbers_from : List ℕ → ℕ → ℕ → List ℕ
numbers_from b from count = list count (λ j. number16 b (from + 2 * j))

-- The labels that a tag stands for; those of edition 2 stand from a place on.
abbrev pub tagged : Edition → List ℕ → ℕ → ℕ → List ℕ
tagged one b from tag = label_list tag
tagged two b from tag = numbers_from b from tag

-- In edition 2 an array says of each of n states how many numbers stand between the first count and its first label.
abbrev pub Firsts : List ℕ → ℕ → ℕ → Edition → List ℕ → Type 0
Firsts b at n e firsts = e ≡ two → (s : ℕ) → s < n → get_or firsts s 0 ≡ n + sum s (label_count b at)
