-- What the states store for a class with the defaults that stay: a root where its chain goes, any other what it stored.
use mathlib.Core.Path.{◌≡◌, sym, ap, ◌∙◌}
use mathlib.Core.Bool.{Bool}
use mathlib.Core.List.{List}
use mathlib.Core.Option.{Option, some}
use Prim.Native.Nat.{ℕ, ◌<◌}
use native.Mathlib.Omega.{arith}
use lib.ListN.{get_or}
use Rattle.paper.specs.Below.{when}
use Rattle.paper.specs.Table as table
use Rattle.paper.specs.View.{stored, look}
use Rattle.paper.specs.Image.{states, classes, default, default_from_of, image_view}
use Rattle.paper.specs.Results.{differs, table_view, table_of}
use Rattle.facts.proofs.ImageFacts.{AcceptedImage}
use Rattle.trips.proofs.Stored.{goes_own}
use Rattle.trips.proofs.Agree.{stored_same}
use Rattle.trips.proofs.TableViews.{table_stores}
use Rattle.chains.proofs.Defaults.{from_none, from_some}
use Rattle.tally.specs.Kept as tally
use Rattle.tally.specs.Owned.{list_view}
use Rattle.tally.proofs.Owned.{kept-differs}
use Rattle.rewrite.specs.Staying.{Setting}
use Rattle.rewrite.proofs.Standing.{table_reads, next_goes, views_agree}
use Rattle.rewrite.proofs.Staying.{stays_there}

-- Where a state stores a target its chain goes there.
pub goes_stored : (b : List ℕ) → AcceptedImage b → (s c x : ℕ) → s < states b → stored (image_view b) s c ≡ default_from_of x → ¬ (x ≡ 65535) → x ≡ (look (image_view b) s c).target
goes_stored b A s c x hs q e = sym (goes_own (image_view b) A.right s c x hs (q ∙ from_some x e))

module _ {b : List ℕ} {n k records : ℕ} {begins stay : List ℕ} (S : Setting b n k records begins stay) (c : ℕ) (hc : c < k) (s : ℕ) (hs : s < n) where
  -- The table.
  abbrev t : List ℕ
  t = table_of b

  -- The defaults that stay.
  abbrev f : ℕ → Option ℕ
  f s = default_from_of (get_or stay s 0)

  -- The state and the class are the image's, and the table's.
  s_below : s < states b
  s_below = omega (arith, S.states_are)

  c_below : c < classes b
  c_below = omega (arith, S.classes_are)

  c_in : c < table.classes t
  c_in = omega (arith, c_below, (table_reads b S.readable S.accepted).classes_is)

  -- A root stores where its chain goes.
  pub root_stores : get_or stay s 0 ≡ 65535 → stored (list_view (table_of b) stay) s c ≡ some (look (image_view b) s c).target
  root_stores e =
      table_stores t f s c c_in ∙ ap (λ (o : Option ℕ). when (differs t f s c o) (table.next t s c)) (from_none (get_or stay s 0) e)
      ∙ ap {B = Option ℕ} some (next_goes b S.readable S.accepted s c s_below c_below)

  -- Any other stores what it stored.
  pub other_stores : ¬ (get_or stay s 0 ≡ 65535) → stored (list_view (table_of b) stay) s c ≡ stored (image_view b) s c
  other_stores e =
      let same : default b s ≡ f s = stays_there b S.readable S.accepted n k S.states_are S.classes_are stay S.stays s hs e ∙ sym (from_some (get_or stay s 0) e) in
      table_stores t f s c c_in
      ∙ ap (λ (x : Bool). when x (table.next t s c)) (sym (kept-differs t f s c (f s)) ∙ ap (tally.kept t s c) (sym same) ∙ kept-differs t (default b) s c (default b s))
      ∙ sym (table_stores t (default b) s c c_in)
      ∙ stored_same (table_view t (default b)) (image_view b) (views_agree b S.readable S.accepted) s c (omega (arith, s_below, (table_reads b S.readable S.accepted).states_is))
