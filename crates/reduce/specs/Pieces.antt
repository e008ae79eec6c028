-- The pieces of the reduced table as they are written, by the arrays that number the states left.
use Rattle.std.specs.Prelude.{List, ◌++◌, ℕ, ◌+◌, ◌*◌, get_or}
use Rattle.paper.specs.Below.{each, list}
use Rattle.paper.specs.Words.{number16, bytes16, all16}
use Rattle.paper.specs.Labels.{first_word}
use Rattle.paper.specs.Table.{edition, classes, class_of, labels, next}

-- The front: so many states with the edition, k, a start state, and the class of each byte.
unfoldable pub front : List ℕ → ℕ → ℕ → List ℕ
front t left start = bytes16 (first_word (edition t) left) ++ (bytes16 (classes t) ++ (bytes16 start ++ list 256 (class_of t)))

-- The number that stands in the place of the label of the old state of s.
abbrev pub tag_of : List ℕ → List ℕ → ℕ → List ℕ
tag_of t old s = bytes16 (number16 t (262 + 2 * get_or old s 0))

-- The labels of the old state of s.
abbrev pub labels_of : List ℕ → List ℕ → ℕ → List ℕ
labels_of t old s = labels t (get_or old s 0)

-- The labels of the old state of s as they stand behind the counts.
abbrev pub list_of : List ℕ → List ℕ → ℕ → List ℕ
list_of t old s = all16 (labels_of t old s)

-- The new number of the next state of x.
abbrev pub goes_to : List ℕ → List ℕ → List ℕ → ℕ → ℕ → ℕ
goes_to t name rank x c = get_or rank (get_or name (next t x c) 0) 0

-- The row of x with the new numbers.
abbrev pub row_of : List ℕ → List ℕ → List ℕ → ℕ → ℕ → List ℕ
row_of t name rank k x = each k (λ c. bytes16 (goes_to t name rank x c))
