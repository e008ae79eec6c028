-- The programs: every byte that each prints of its input.
use Rattle.std.specs.Prelude.{cond, List, [], ◌∷◌, ◌++◌, map, ℕ, ◌+◌, ltb, eqb, length, take, drop}
use Rattle.paper.specs.Below.{how_many_of, bit, each, given}
use Rattle.paper.specs.View.{Found, look}
use Rattle.paper.specs.Image.{states, start, depth, entries, class_of, behind, default, image_view, worst, image_length_of}
use Rattle.paper.specs.Operations.{judge_table_of, judge_image_of, compacted}
use Rattle.paper.specs.Text.{line, lines_or, too_long_line}

-- How many states of an image have a default.
abbrev pub defaults_in_of : List ℕ → ℕ
defaults_in_of b = how_many_of (states b) (λ s. given (default b s))

-- The line "bound depth worst stored defaults bytes".
unfoldable pub bounds_header : List ℕ
bounds_header =
    98 ∷ 111 ∷ 117 ∷ 110 ∷ 100 ∷ 32 ∷ 100 ∷ 101 ∷ 112 ∷ 116 ∷ 104 ∷ 32
    ∷ 119 ∷ 111 ∷ 114 ∷ 115 ∷ 116 ∷ 32 ∷ 115 ∷ 116 ∷ 111 ∷ 114 ∷ 101 ∷ 100 ∷ 32
    ∷ 100 ∷ 101 ∷ 102 ∷ 97 ∷ 117 ∷ 108 ∷ 116 ∷ 115 ∷ 32 ∷ 98 ∷ 121 ∷ 116 ∷ 101 ∷ 115 ∷ 10 ∷ []

-- The line of a table compacted in order 0 with bound D: the bound, depth, worst, entries, defaults, image length.
unfoldable pub bounds_line : List ℕ → ℕ → List ℕ
bounds_line t D =
    let b = compacted t 0 D in
    line (D ∷ depth b ∷ worst b ∷ entries b ∷ defaults_in_of b ∷ length b ∷ [])

-- What the program `bounds` prints of an input, a table: a line for each of the bounds 0, 1, 2, 3.
unfoldable pub bounds_text_of : List ℕ → List ℕ
bounds_text_of input = cond (ltb 30000 (length input)) too_long_line (lines_or (judge_table_of input) (bounds_header ++ each 4 (bounds_line input)))

-- How often a number stands in a list.
abbrev pub how_often : ℕ → List ℕ → ℕ
how_often x [] = 0
how_often x (y ∷ ys) = bit (eqb x y) + how_often x ys

module _ (look : ℕ → ℕ → Found) (class_of : ℕ → ℕ) where
  -- For each byte of a payload the running state when it is read, and what the look-up finds there.
  abbrev pub look_ups : ℕ → List ℕ → List (ℕ × Found)
  look_ups s [] = []
  look_ups s (x ∷ xs) =
      let f = look s (class_of x) in
      (s, f) ∷ look_ups f.target xs

-- The line of a state: the state, how often it served, how often it was the running state when a byte was read.
abbrev pub served_line : List (ℕ × Found) → ℕ → List ℕ
served_line ws s = line (s ∷ how_often s (map (λ (w : ℕ × Found). w.1.server) ws) ∷ how_often s (map (λ (w : ℕ × Found). w.0) ws) ∷ [])

-- The lines of an image and a payload, taken from the image's start state on, for each state from 0 up.
unfoldable pub served_lines : List ℕ → List ℕ → List ℕ
served_lines b payload =
    let ws = look_ups (look (image_view b)) (class_of b) (start b) payload in
    each (states b) (served_line ws)

-- Where the image ends in an input that begins with one: the length that its counts give.
abbrev pub image_end_of : List ℕ → ℕ
image_end_of input = image_length_of (states input) (entries input) (behind input)

-- What the program `served` prints of an input, an image and then a payload; an input that ends before the image does is judged as it stands.
unfoldable pub served_text_of : List ℕ → List ℕ
served_text_of input =
    let b = take (image_end_of input) input in
    cond (ltb 60000 (length input)) too_long_line (lines_or (judge_image_of b) (served_lines b (drop (image_end_of input) input)))
