-- The pieces of an image as they are written: the classes and labels, the records, and the entries class by class.
use Rattle.std.specs.Prelude.{cond, List, [], ◌++◌, ℕ, get_or}
use Rattle.paper.specs.Below.{each, list}
use Rattle.paper.specs.Words.{bytes16}
use Rattle.paper.specs.Table.{edition, states, class_of, labels, next}
use Rattle.paper.specs.Image.{default_from_of}
use Rattle.paper.specs.Results.{label_bytes_of}
use Rattle.tally.specs.Kept.{kept}

-- The class of each byte, and the labels of each state.
unfoldable pub classes_and_labels : List ℕ → List ℕ
classes_and_labels t = list 256 (class_of t) ++ label_bytes_of (edition t) (states t) (labels t)

-- The record of a state, by the list of the defaults and the list of the counts.
abbrev pub listed_record : List ℕ → List ℕ → ℕ → List ℕ
listed_record def counts s = bytes16 (get_or def s 0) ++ bytes16 (get_or counts s 0)

-- The entry of a class of a state, where the state keeps the class with the default that a number stands for; else nothing.
abbrev pub kept_entry : List ℕ → ℕ → ℕ → ℕ → List ℕ
kept_entry t d s c = cond (kept t s c (default_from_of d)) (bytes16 c ++ bytes16 (next t s c)) []

-- The entries of a state in the rising order of its classes.
abbrev pub kept_row : List ℕ → ℕ → List ℕ → ℕ → List ℕ
kept_row t k def s = each k (kept_entry t (get_or def s 0) s)
