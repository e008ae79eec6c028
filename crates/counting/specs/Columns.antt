-- Two columns of counts, one count for each state.
use Rattle.std.specs.Prelude.{◌≡◌, List, [], ◌∷◌, map, ℕ, ◌+◌, length, get_or}
use Rattle.paper.specs.Text.{line}
use Rattle.paper.specs.View.{Found, look}
use Rattle.paper.specs.Image.{start, class_of, image_view}
use Rattle.paper.specs.Programs.{how_often, look_ups}

-- No state is counted yet, and there is room for 512.
pub record Zeros (counts : List ℕ) : Type 0 where
  pub long : length counts ≡ 512
  pub zero : (x : ℕ) → get_or counts x 0 ≡ 0

-- Of a look-up of a byte the state whose entry served, and the state that the byte is read in.
abbrev pub server_of : ℕ × Found → ℕ
server_of w = w.1.server

abbrev pub running_of : ℕ × Found → ℕ
running_of w = w.0

-- The look-ups of a payload in an image, from its start state on.
abbrev pub look_ups_of : List ℕ → List ℕ → List (ℕ × Found)
look_ups_of b payload = look_ups (look (image_view b)) (class_of b) (start b) payload

-- The column counts for each number how often it stands among what is taken of these look-ups.
pub record CountsOf (of : ℕ × Found → ℕ) (b payload counts : List ℕ) : Type 0 where
  pub counts_are : (x : ℕ) → get_or counts x 0 ≡ how_often x (map of (look_ups_of b payload))

-- The column counts how often each number stands in a whole list, but for what is left of it.
abbrev pub Column : List ℕ → List ℕ → List ℕ → Type 0
Column counts left whole = (x : ℕ) → get_or counts x 0 + how_often x left ≡ how_often x whole

-- The line of a state: the state and what each of two columns counts for it.
abbrev pub columns_line : List ℕ → List ℕ → ℕ → List ℕ
columns_line served ran s = line (s ∷ get_or served s 0 ∷ get_or ran s 0 ∷ [])
