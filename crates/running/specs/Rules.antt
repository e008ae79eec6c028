-- What a payload is run over, an image or a plain table: one form for both.
use Rattle.std.specs.Prelude.{◌≡◌, List, ℕ, ◌/◌, ◌<◌}
use Rattle.paper.specs.Labels.{Edition, labels_from}
use Rattle.paper.specs.Table as table
use Rattle.paper.specs.View.{Found, look}
use Rattle.paper.specs.Image as image
use Rattle.paper.specs.Image.{image_view}
use Rattle.paper.specs.Scan.{Run, run, begun, look_plain}

-- The number of states, the class of each byte, the look-up, and the labels of each state.
pub record Rules : Type 0 where
  pub states : ℕ
  pub class_of : ℕ → ℕ
  pub look : ℕ → ℕ → Found
  pub labels : ℕ → List ℕ

-- An image.
abbrev pub image_rules : List ℕ → Rules
image_rules b = record { states = image.states b; class_of = image.class_of b; look = look (image_view b); labels = image.labels b }

-- A plain table.
abbrev pub table_rules : List ℕ → Rules
table_rules t = record { states = table.states t; class_of = table.class_of t; look = look_plain t; labels = table.labels t }

-- What is found for a byte in a state.
abbrev pub found_on : Rules → ℕ → ℕ → Found
found_on R s x = R.look s (R.class_of x)

-- The scan over a payload with room for so many reports, from where it is.
abbrev pub going : Rules → ℕ → List ℕ → Run → Run
going R most = run R.look R.class_of R.labels most

-- The scan over a payload from a state, with a room of so many bytes.
abbrev pub run_of : Rules → ℕ → List ℕ → ℕ → Run
run_of R s payload room = going R (room / 6) payload (begun s)

-- What was found is one of n states, in few hops.
pub record Reached (n target hops : ℕ) : Type 0 where
  pub inside : target < n
  pub few : hops < 512

-- The states are n, and their labels are those that stand at a place of some bytes in an edition.
pub record Labelled (R : Rules) (b : List ℕ) (at n : ℕ) (e : Edition) : Type 0 where
  pub states_are : R.states ≡ n
  pub labels_are : (s : ℕ) → s < n → R.labels s ≡ labels_from b at n e s
