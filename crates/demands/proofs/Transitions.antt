-- The entries and defaults of an image: its m and its records say those of the list that it was written with.
use mathlib.Core.Path.{◌≡◌, sym, ap, ap₂, ◌∙◌}
use mathlib.Core.List.{List}
use mathlib.Core.Option.{Option}
use Prim.Native.Nat.{ℕ, ◌+◌}
use Rattle.paper.specs.Below.{how_many_of, given}
use Rattle.paper.specs.Words.{Bytes}
use Rattle.paper.specs.Table.{states}
use Rattle.paper.specs.Image as image
use Rattle.paper.specs.Results.{image_of}
use Rattle.paper.proofs.Counts.{count_same}
use Rattle.trees.proofs.Fewest.{transitions}
use Rattle.trips.proofs.Writable.{Writable}
use Rattle.trips.proofs.ImageOf.{reads, defaults_of_image}

-- The m of an image and the defaults in its records together.
abbrev pub image_transitions_of : List ℕ → ℕ
image_transitions_of b = image.entries b + how_many_of (image.states b) (λ s. given (image.default b s))

-- Of the image of a table with defaults they are the entries and the defaults of the list.
pub image_transitions : (t : List ℕ) (default : ℕ → Option ℕ) → Bytes t → Writable t default → image_transitions_of (image_of t default) ≡ transitions t default
image_transitions t default B W =
    let R = reads t default B W in
    let b = image_of t default in
    ap₂ ◌+◌ R.entries_are
    (ap (λ (n : ℕ). how_many_of n (λ s. given (image.default b s))) (sym R.view_is.states_same)
    ∙ count_same (states t) (λ s. given (image.default b s)) (λ s. given (default s)) (λ s h. ap (λ (o : Option ℕ). given o) (defaults_of_image t default B W s h)))
