-- The parts of the table of a word list, by the arrays that code holds.
use Rattle.std.specs.Prelude.{List, ◌++◌, ℕ, ◌+◌, ◌*◌, get_or}
use Rattle.paper.specs.Below.{each, list}
use Rattle.paper.specs.Words.{bytes16}
use Rattle.labelling.specs.Ended.{labels_at}

-- n with the edition, k and the start state 0.
abbrev pub head : ℕ → ℕ → List ℕ
head n k = bytes16 (32768 + n) ++ (bytes16 k ++ bytes16 0)

-- The class of each byte.
abbrev pub class_bytes : List ℕ → List ℕ
class_bytes classes = list 256 (λ x. get_or classes x 0)

-- The count of labels of a state.
abbrev pub count_bytes_of : List ℕ → ℕ → List ℕ
count_bytes_of counts s = bytes16 (get_or counts s 0)

-- The next state of a state on a class.
abbrev pub cell_bytes : List ℕ → ℕ → ℕ → List ℕ
cell_bytes rows s c = bytes16 (get_or rows (s * 256 + c) 0)

-- The row of a state.
abbrev pub row_bytes : List ℕ → ℕ → ℕ → List ℕ
row_bytes rows k s = each k (cell_bytes rows s)

-- All parts.
unfoldable pub assembled : List ℕ → List ℕ → List ℕ → ℕ → ℕ → List ℕ → List ℕ → List ℕ → List ℕ
assembled b from long n k classes counts rows =
    head n k ++ (class_bytes classes ++ (each n (count_bytes_of counts) ++ (each n (labels_at b from long) ++ each n (row_bytes rows k))))
