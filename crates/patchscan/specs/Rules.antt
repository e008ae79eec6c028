-- What is run over an image with a patch that it takes.
use Rattle.std.specs.Prelude.{List, ℕ}
use Rattle.paper.specs.View.{look}
use Rattle.paper.specs.Image as image
use Rattle.paper.specs.Image.{states, class_of}
use Rattle.paper.specs.Patch.{patched_view}
use Rattle.running.specs.Rules.{Rules}

-- An image with a patch.
abbrev pub patched_rules : List ℕ → List ℕ → Rules
patched_rules b x = record { states = states b; class_of = class_of b; look = look (patched_view b x); labels = image.labels b }
