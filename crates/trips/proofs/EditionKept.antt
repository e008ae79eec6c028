-- A result keeps the edition of its input: the image that write or compact leaves that of the table, the table that expand leaves that of the image.
use mathlib.Core.Path.{◌≡◌, ap, ◌∙◌}
use mathlib.Core.List.{List}
use Prim.Native.Nat.{ℕ}
use Rattle.paper.specs.Words.{Bytes}
use Rattle.paper.specs.Table as table
use Rattle.paper.specs.Image as image
use Rattle.paper.specs.Defaults.{defaults}
use Rattle.paper.specs.Operations.{result, listed, compact, write, expand}
use Rattle.trips.proofs.ImageOf.{image_of_edition}
use Rattle.trips.proofs.TableOf.{table_of_edition}
use Rattle.trips.proofs.ExpandsBack.{write_leaves, compact_leaves}
use Rattle.trips.proofs.WritesBack.{expand_leaves}

-- Write.
pub write_keeps_edition : (t ds room : List ℕ) → Bytes t → (write t ds room).number ≡ 0 → image.edition (result (write t ds room)) ≡ table.edition t
write_keeps_edition t ds room B e = let (w, W) = write_leaves t ds room e in ap image.edition w ∙ image_of_edition t (listed ds) B W

-- Compact.
pub compact_keeps_edition : (t : List ℕ) (order D : ℕ) (room : List ℕ) → Bytes t → (compact t order D room).number ≡ 0 → image.edition (result (compact t order D room)) ≡ table.edition t
compact_keeps_edition t order D room B e = let (w, W) = compact_leaves t order D room e in ap image.edition w ∙ image_of_edition t (defaults t order D) B W

-- Expand.
pub expand_keeps_edition : (b room : List ℕ) → Bytes b → (expand b room).number ≡ 0 → table.edition (result (expand b room)) ≡ image.edition b
expand_keeps_edition b room B e = let (judged, w) = expand_leaves b room e in ap table.edition w ∙ table_of_edition b B judged
