-- The labels of an image of the one edition as the other has them.
use Rattle.std.specs.Prelude.{List, ℕ, ◌+◌, ◌*◌, length}
use Rattle.paper.specs.Words.{number16, bytes16, all16}
use Rattle.paper.specs.Labels.{two, label_list, labels_from}
use Rattle.paper.specs.Results.{label_number_of}

-- The labels that the number of a state in edition 1 stands for.
abbrev pub numbered : List ℕ → ℕ → List ℕ
numbered b s = label_list (number16 b (268 + 2 * s))

-- The count of them.
abbrev pub count_of : List ℕ → ℕ → List ℕ
count_of b s = bytes16 (length (numbered b s))

-- The labels themselves.
abbrev pub list_of : List ℕ → ℕ → List ℕ
list_of b s = all16 (numbered b s)

-- The number of edition 1 that stands for the list of a state in edition 2.
abbrev pub number_of : List ℕ → ℕ → ℕ → List ℕ
number_of b n s = bytes16 (label_number_of (labels_from b 268 n two s))
