-- A table with its defaults in a list: the view of it.
use Rattle.std.specs.Prelude.{List, ℕ, get_or}
use Rattle.paper.specs.View.{View}
use Rattle.paper.specs.Image.{default_from_of}
use Rattle.paper.specs.Results.{table_view}

-- The view of a table with the defaults of a list.
abbrev pub list_view : List ℕ → List ℕ → View
list_view t def = table_view t (λ s. default_from_of (get_or def s 0))
