-- The image's defaults as numbers, and over them the patch's: those of the view of both.
use mathlib.Core.Path.{◌≡◌, refl, sym, ap, ◌∙◌}
use mathlib.Core.List.{List}
use mathlib.Core.Option.{Option, none, some}
use Prim.Native.Nat.{ℕ, ◌+◌, ◌*◌, ◌<◌}
use lib.ListN.{get_or}
use Rattle.paper.specs.Words.{number16}
use Rattle.paper.specs.Image as image
use Rattle.paper.specs.Image.{default_from_of, image_view}
use Rattle.paper.specs.Patch.{records_at_of, default, listed_states, listed_at, from_either, patched_view}
use Rattle.chains.specs.Sweeps.{Falls}
use Rattle.patch.proofs.Over.{Over, over_none, over_some}

-- The number that stands in the record of a listed state for its default.
abbrev pub own_default : List ℕ → ℕ → ℕ
own_default x i = number16 x (records_at_of x + 4 * i)

-- Where each listed state has its own, over the image's, the list has the defaults of the view.
pub over_falls : (b : List ℕ) {x : List ℕ} {n i : ℕ} {old new : List ℕ} → Falls (image_view b) n old → Over x (own_default x) old new i → i ≡ listed_states x → Falls (patched_view b x) n new
unfolding default
over_falls b {x} {n} {i} {old} {new} F O e = record { counted = F.counted; falls = λ s h. go s h (listed_at x s) refl }
  where
    go : (s : ℕ) → s < n → (o : Option ℕ) → listed_at x s ≡ o → from_either o (default x) (image.default b s) ≡ default_from_of (get_or new s 0)
    go s h none q = F.falls s h ∙ ap default_from_of (sym (over_none (own_default x) O s e q))
    go s h (some j) q = ap default_from_of (sym (over_some (own_default x) O s e j q))
