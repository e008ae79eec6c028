-- For each state the bytes in which its entries wait: the patch's where it lists the state, else the image's.
use Rattle.std.specs.Prelude.{List, ℕ, zero, suc, drop}
use Rattle.paper.specs.Below.{sum}
use Rattle.paper.specs.Refusals.{Ground}
use Rattle.paper.specs.View.{view_grounds}
use Rattle.paper.specs.Image.{states, class_of}
use Rattle.paper.specs.Patch.{listed_at, from_either, patched_view, depth, worst}

-- The bytes of a state that is kept under a number, 0 for one that the patch does not list.
abbrev pub chosen : List ℕ → List ℕ → ℕ → List ℕ
chosen b x zero = b
chosen b x (suc slot) = x

-- The bytes of a state.
abbrev pub bytes_of : List ℕ → List ℕ → ℕ → List ℕ
bytes_of b x s = from_either (listed_at x s) (λ _. x) b

-- The grounds 11, 12 and 13 of an image with a patch.
unfoldable pub last_grounds_of : List ℕ → List ℕ → List Ground
last_grounds_of b x = let v = patched_view b x in drop 3 (view_grounds v (class_of b) (sum (states b) v.count) (depth x) (worst x))
