-- A table with its defaults in a list: its chains, its depth and its image are those of any defaults that are the same below n.
use mathlib.Core.Path.{◌≡◌, refl, sym, ◌∙◌}
use mathlib.Core.Option.{Option}
use mathlib.Core.List.{List}
use Prim.Native.Nat.{ℕ, ◌<◌}
use native.Mathlib.Omega.{arith}
use lib.ListN.{get_or}
use Rattle.paper.specs.Below.{sum}
use Rattle.paper.specs.Table.{states, classes, behind}
use Rattle.paper.specs.View.{depth_of}
use Rattle.paper.specs.Image.{default_from_of}
use Rattle.paper.specs.Results.{table_view, image_of}
use Rattle.facts.proofs.TableFacts.{AcceptedTable}
use Rattle.chains.specs.Orders.{defaults_view, InRange, ParentFirst}
use Rattle.chains.specs.Sweeps.{Falls}
use Rattle.chains.proofs.Defaults.{range_inside}
use Rattle.chains.proofs.Agrees.{depth-agrees}
use Rattle.tally.specs.Kept.{Counts}
use Rattle.tally.specs.Owned.{list_view}
use Rattle.build.specs.Measured.{list_image_of, Measured, Drawn}
use Rattle.build.proofs.Same.{image_same}

-- A view of a table falls to the defaults of a list that has the same below n.
pub list-falls : (t : List ℕ) (f : ℕ → Option ℕ) (n : ℕ) (def : List ℕ) → n ≡ states t → ((s : ℕ) → s < n → f s ≡ default_from_of (get_or def s 0)) → Falls (table_view t f) n def
list-falls t f n def N same = record { counted = sym N; falls = same }

-- With defaults in range the depth of the list is that of the table with it.
list-depth : (t : List ℕ) (n : ℕ) (def : List ℕ) (depth : ℕ) → n ≡ states t → InRange n def → depth ≡ depth_of (defaults_view n def) → depth ≡ depth_of (list_view t def)
list-depth t n def depth N range e = e ∙ sym (depth-agrees (list-falls t (λ s. default_from_of (get_or def s 0)) n def N (λ s h. refl)) range)

-- What the order of defaults in range and the counts with them hand to the function that writes the image.
pub list_drawn : {t : List ℕ} {n depth : ℕ} {def counts order : List ℕ} → AcceptedTable t → n ≡ states t → InRange n def → Counts t n def counts
    → (depth ≡ depth_of (defaults_view n def)) × ParentFirst n def order → Drawn t def counts order depth
list_drawn {t} {n} {depth} {def} A N range counted sorted =
    record { accepted = A; range = rw (← N) range; counted = rw (← N) counted; first = rw (← N) sorted.1; depth_is = list-depth t n def depth N range sorted.0 }

-- What is counted in order to write it.
pub drawn_measured : {t def counts order : List ℕ} {depth n held m : ℕ} → Drawn t def counts order depth → n ≡ states t → held ≡ behind t → m ≡ sum n (λ s. get_or counts s 0) → Measured t n (classes t) held def counts m
drawn_measured D N H total =
    record { accepted = D.accepted; states_are = N; classes_are = refl; held_are = H; range = rw N D.range; counted = rw N D.counted; total_is = total }

-- With defaults in range the image with the list is that with any defaults that are the same below n.
pub list_image : (t : List ℕ) (f : ℕ → Option ℕ) (n : ℕ) (def : List ℕ) → n ≡ states t → InRange n def → ((s : ℕ) → s < n → f s ≡ default_from_of (get_or def s 0))
    → list_image_of t def ≡ image_of t f
list_image t f n def N range same =
    image_same t (λ s. default_from_of (get_or def s 0)) f (λ s h. sym (same s (omega arith))) (λ s d h e. omega (arith, range_inside n def range s d (omega arith) e))
