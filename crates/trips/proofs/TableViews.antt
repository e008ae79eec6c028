-- The view of a table with defaults: what it stores, and that its chains give the table's rows.
use mathlib.Core.Path.{◌≡◌, refl, sym, ap, ◌∙◌}
use mathlib.Core.Bool.{Bool, true, false, true≢false}
use mathlib.Core.Option.{Option, none, some}
use mathlib.Core.List.{List}
use Prim.Native.Nat.{ℕ, zero, suc, ◌<◌}
use lib.Dec.{eqb}
use borrow.Author.Tests.{eqb-true}
use Rattle.paper.specs.Below.{when}
use Rattle.paper.specs.Table as table
use Rattle.paper.specs.View.{View, Found, here, further, served, stored, chain, chained, look_up_of}
use Rattle.paper.specs.Results.{differs, stored_entries, table_view}
use Rattle.paper.proofs.Tests.{none≢some}
use Rattle.paper.proofs.Chain.{longer_some}
use Rattle.paper.proofs.Entries.{stored_entry, entry_stored}
use Rattle.paper.proofs.Look.{farther}
use Rattle.trips.proofs.Picked.{Picked, picked}

module _ (t : List ℕ) (default : ℕ → Option ℕ) where
  -- k, the number of classes.
  abbrev k : ℕ
  k = table.classes t

  -- The table's view.
  abbrev v : View
  v = table_view t default

  -- A state keeps a class: it has no default, or goes elsewhere than its default.
  abbrev pub keeps : ℕ → ℕ → Bool
  keeps s c = differs t default s c (default s)

  -- The entries of a state are those of the classes that it keeps, each with the table's next state.
  pub entries_picked : (s : ℕ) → Picked (keeps s) (table.next t s) k (stored_entries t default s)
  unfolding stored_entries
  entries_picked s = picked (keeps s) (table.next t s) k

  -- The view stores the next state for each class that is kept.
  pub table_stores : (s c : ℕ) → c < k → stored v s c ≡ when (keeps s c) (table.next t s c)
  table_stores s c hc = go (keeps s c) refl
    where
      P : Picked (keeps s) (table.next t s) k (stored_entries t default s)
      P = entries_picked s

      go : (b : Bool) → keeps s c ≡ b → stored v s c ≡ when b (table.next t s c)
      go true q =
          let (j, hj, e) = P.all c hc q in
          ap (stored v s) (sym e) ∙ entry_stored v s P.rises j hj ∙ ap {B = Option ℕ} some ((P.each_is j hj).2 ∙ ap (table.next t s) e)
      go false q = at (stored v s c) refl
        where
          at : (o : Option ℕ) → stored v s c ≡ o → stored v s c ≡ none
          at none e = e
          at (some x) e = let (j, hj, w, _) = stored_entry v s c x e in absurd (true≢false (sym (P.each_is j hj).1 ∙ ap (keeps s) w ∙ q))

  -- A chain that ends gives the table's next state.
  pub table_gives : (c left s l : ℕ) → c < k → chain v left s ≡ some l → (r : Found) × (look_up_of v left s c ≡ some r) × (r.target ≡ table.next t s c)
  table_gives c zero s l hc e = absurd (none≢some none l refl e)
  table_gives c (suc left) s l hc e = rw (table_stores s c hc) (go (default s) e (λ d l. table_gives c left d l hc))
    where
      -- What the look-up finds at a state with this default.
      Given : Option ℕ → Type 0
      Given o = (r : Found) × (served s (when (differs t default s c o) (table.next t s c)) o (λ d. look_up_of v left d c) ≡ some r) × (r.target ≡ table.next t s c)

      go : (o : Option ℕ) → chained o (λ d. chain v left d) ≡ some l
          → ((d l : ℕ) → chain v left d ≡ some l → (r : Found) × (look_up_of v left d c ≡ some r) × (r.target ≡ table.next t d c)) → Given o
      go none e ih = (here s (table.next t s c), refl, refl)
      go (some d) e ih = at (eqb (table.next t s c) (table.next t d c)) refl
        where
          at : (b : Bool) → eqb (table.next t s c) (table.next t d c) ≡ b → Given (some d)
          at false q = rw q (here s (table.next t s c), refl, refl)
          at true q =
              let (m, w, _) = longer_some (chain v left d) l e in
              let (r, u, x) = ih d m w in
              (farther r, rw q (ap further u), x ∙ sym (eqb-true (table.next t s c) (table.next t d c) q))
