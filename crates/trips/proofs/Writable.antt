-- Tables and defaults that can be written: the table accepted, the defaults below n and their chains with an end. The view is then sound.
use mathlib.Core.Path.{◌≡◌, refl, sym, ap, ◌∙◌}
use mathlib.Core.Bool.{true, false}
use mathlib.Core.Option.{Option, none, some}
use mathlib.Core.List.{List}
use Prim.Native.Nat.{ℕ, ◌<◌}
use native.Mathlib.Omega.{arith}
use lib.Dec.{eqb}
use borrow.Author.Tests.{eqb-false, ne_eqb, not-true}
use Rattle.paper.specs.Below.{any, when, given}
use Rattle.paper.specs.Table as table
use Rattle.paper.specs.View.{View, Found, chain, find, endless, default_bad_of, default_gives}
use Rattle.paper.specs.Results.{differs, stored_entries, table_view}
use Rattle.paper.specs.Operations.{judge_table_of}
use Rattle.paper.proofs.Below.{any_at}
use Rattle.paper.proofs.Tests.{given_some}
use Rattle.paper.proofs.Counts.{count_all}
use Rattle.paper.proofs.Rising.{rank_all, count_le_bound}
use Rattle.paper.proofs.Entries.{has, entries-row}
use Rattle.paper.proofs.Chain.{Inside}
use Rattle.facts.proofs.TableFacts.{accepted_table}
use Rattle.facts.proofs.ViewFacts.{Sound}
use Rattle.facts.proofs.EntryFacts.{default_inside}
use Rattle.trips.proofs.Picked.{Picked}
use Rattle.trips.proofs.TableViews.{keeps, entries_picked, table_stores, table_gives}

-- The chain of every state has an end.
abbrev pub Ending : View → Type 0
Ending v = (s : ℕ) → s < v.states → (l : ℕ) × (chain v v.states s ≡ some l)

-- The table is accepted, the defaults are below n, and their chains end.
pub record Writable (t : List ℕ) (default : ℕ → Option ℕ) : Type 0 where
  pub judged : judge_table_of t ≡ 0
  pub inside : Inside (table_view t default)
  pub ends : Ending (table_view t default)

-- It is so where the table is accepted, no default is wrong and no chain is endless.
pub writable : (t : List ℕ) (default : ℕ → Option ℕ) → judge_table_of t ≡ 0 → any (table.states t) (λ s. default_bad_of (table.states t) (default s)) ≡ false
    → any (table.states t) (endless (table_view t default)) ≡ false → Writable t default
writable t default e among acyclic =
    let n = table.states t in
    record {
      judged = e;
      inside = λ s d hs q. default_inside n d (default s) (any_at n s (λ s. default_bad_of n (default s)) among hs) q;
      ends = λ s hs. given_some (chain (table_view t default) n s) (any_at n s (endless (table_view t default)) acyclic hs);
    }

module _ (t : List ℕ) (default : ℕ → Option ℕ) (W : Writable t default) where
  -- Every look-up finds the table's next state.
  pub find-next : (s c : ℕ) → s < table.states t → c < table.classes t → (r : Found) × (find (table_view t default) s c ≡ some r) × (r.target ≡ table.next t s c)
  find-next s c hs hc = let (l, e) = W.ends s hs in table_gives t default c (table.states t) s l hc e

  -- A class that is kept is not what the default gives.
  kept-needed : (s c : ℕ) → s < table.states t → c < table.classes t → keeps t default s c ≡ true → default_gives (table_view t default) (default s) c (table.next t s c) ≡ false
  kept-needed s c hs hc q = go (default s) refl q
    where
      go : (o : Option ℕ) → default s ≡ o → differs t default s c o ≡ true → default_gives (table_view t default) o c (table.next t s c) ≡ false
      go none e q = refl
      go (some d) e q =
          let (r, found, target) = find-next d c (W.inside s d hs e) hc in
          rw found
          (ne_eqb r.target (table.next t s c)
          (λ z. eqb-false (table.next t s c) (table.next t d c) (not-true (eqb (table.next t s c) (table.next t d c)) q) (sym z ∙ target)))

  -- The view is sound.
  pub table_sound : Sound (table_view t default)
  table_sound =
      let v = table_view t default in
      let P : (s : ℕ) → Picked (keeps t default s) (table.next t s) (table.classes t) (stored_entries t default s) = entries_picked t default in
      let below : (s j : ℕ) → j < v.count s → v.entry_class s j < v.classes = λ s j hj. ((P s).each_is j hj).0 in
      record {
        full = λ s hs q.
            sym (rank_all (v.entry_class s) (v.count s) (has v s) (entries-row v s (P s).rises) v.classes (below s))
            ∙ count_all v.classes (has v s) (λ c hc. ap given (table_stores t default s c hc ∙ ap (λ (o : Option ℕ). when (differs t default s c o) (table.next t s c)) q));
        inside = W.inside;
        few = λ s hs. count_le_bound (v.entry_class s) (v.count s) (P s).rises v.classes (below s);
        class_below = λ s j hs hj. below s j hj;
        rises = λ s j hs hj. (P s).rises j hj;
        next_below = λ s j hs hj. omega (arith, ((P s).each_is j hj).2, (accepted_table t W.judged).inside s (v.entry_class s j) hs (below s j hj));
        ends = W.ends;
        needed = λ s j hs hj.
            let (a, b, c) = (P s).each_is j hj in
            ap (default_gives v (default s) (v.entry_class s j)) c ∙ kept-needed s (v.entry_class s j) hs a b;
      }
