-- The counts of an image, as a view holds them.
use Rattle.std.specs.Prelude.{◌≡◌, List, ℕ}
use Rattle.paper.specs.Image.{states, classes, entries}
use Rattle.image.specs.Laid.{Laid}
use Rattle.view.specs.declared.Counts.{Counts}

-- n, k and m as they stand in the front.
abbrev pub counts_in_front : List ℕ → Counts
counts_in_front b = record { n = states b; k = classes b; m = entries b }

-- The numbers n and m are those of the image, whose length is the one that they give.
pub record Opened (b : List ℕ) (n m : ℕ) : Type 0 where
  pub states_are : n ≡ states b
  pub entries_are : m ≡ entries b
  pub laid : Laid b
