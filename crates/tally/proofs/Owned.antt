-- A table with its defaults in a list: which classes a state stores, and the hops of each.
use mathlib.Core.Path.{◌≡◌, refl, ap, ◌∙◌}
use mathlib.Core.Bool.{Bool, true, false, not}
use mathlib.Core.Option.{Option, none, some}
use mathlib.Core.List.{List}
use Prim.Native.Nat.{ℕ, ◌+◌, ◌<◌}
use lib.Dec.{eqb}
use lib.ListN.{get_or}
use Rattle.paper.specs.Below.{when}
use Rattle.paper.specs.Table.{classes, next}
use Rattle.paper.specs.View.{stored}
use Rattle.paper.specs.Image.{default_from_of}
use Rattle.paper.specs.Results.{differs}
use Rattle.trips.proofs.TableViews.{table_stores}
use Rattle.chains.proofs.Defaults.{from_none, from_some}
use Rattle.chains.proofs.Hops.{Within, within_own, within_on}
use Rattle.tally.specs.Kept.{kept}
use Rattle.tally.specs.Owned.{list_view}
use Rattle.tally.specs.Hops.{hop_number}

-- A class is kept just where its entry stands in the view.
pub kept-differs : (t : List ℕ) (default : ℕ → Option ℕ) (s c : ℕ) (o : Option ℕ) → kept t s c o ≡ differs t default s c o
kept-differs t default s c none = refl
kept-differs t default s c (some d) = refl

module _ (t def : List ℕ) (s c : ℕ) (hc : c < classes t) where
  -- A state without a default stores the class and takes no hop.
  pub within_root : (i : ℕ) → get_or def s 0 ≡ 65535 → Within (list_view t def) (i + 1) s c 0
  within_root i e =
      within_own i s c (next t s c)
      (table_stores t (λ s. default_from_of (get_or def s 0)) s c hc ∙ ap (λ (o : Option ℕ). when (differs t (λ s. default_from_of (get_or def s 0)) s c o) (next t s c)) (from_none (get_or def s 0) e))

  -- One with a default takes as many as the two next states say.
  pub within_number : (i h : ℕ) → ¬ (get_or def s 0 ≡ 65535) → Within (list_view t def) i (get_or def s 0) c h → Within (list_view t def) (i + 1) s c (hop_number t s (get_or def s 0) c h)
  within_number i h e W = go (eqb (next t s c) (next t d c)) refl
    where
      d : ℕ
      d = get_or def s 0

      stores : (b : Bool) → eqb (next t s c) (next t d c) ≡ b → stored (list_view t def) s c ≡ when (not b) (next t s c)
      stores b q =
          table_stores t (λ s. default_from_of (get_or def s 0)) s c hc
          ∙ ap (λ (o : Option ℕ). when (differs t (λ s. default_from_of (get_or def s 0)) s c o) (next t s c)) (from_some d e)
          ∙ ap (λ (b : Bool). when (not b) (next t s c)) q

      go : (b : Bool) → eqb (next t s c) (next t d c) ≡ b → Within (list_view t def) (i + 1) s c (hop_number t s d c h)
      go true q = rw q (within_on s (stores true q) (from_some d e) W)
      go false q = rw q (within_own i s c (next t s c) (stores false q))
