-- A table with some of its defaults dropped, whichever: it can still be written, and no look-up takes more hops.
use mathlib.Core.Path.{◌≡◌, refl, sym, ap, ◌∙◌}
use mathlib.Core.Bool.{Bool, true, false}
use mathlib.Core.Logic.{◌⊎◌, inl, inr}
use mathlib.Core.Option.{Option, none, some}
use mathlib.Core.List.{List}
use Prim.Native.Nat.{ℕ, zero, suc, ◌≤◌, ◌<◌}
use native.Mathlib.Omega.{arith}
use Rattle.paper.specs.Below.{when}
use Rattle.paper.specs.Table as table
use Rattle.paper.specs.View.{View, chain, chained, look}
use Rattle.paper.specs.Results.{differs, table_view}
use Rattle.paper.proofs.Tests.{none≢some}
use Rattle.paper.proofs.Chain.{longer_some}
use Rattle.paper.proofs.Look.{hops_of}
use Rattle.trips.proofs.TableViews.{table_stores}
use Rattle.trips.proofs.Writable.{Writable, find-next}
use Rattle.trips.proofs.Hops.{AsBefore, no_farther}

-- Of each state the default is dropped, or it stays.
abbrev pub Drops : (ℕ → Option ℕ) → (ℕ → Option ℕ) → Type 0
Drops f g = (s : ℕ) → (g s ≡ none) ⊎ (g s ≡ f s)

module _ (t : List ℕ) (f g : ℕ → Option ℕ) (drops : Drops f g) where
  -- The views before and after.
  abbrev v : View
  v = table_view t f

  abbrev w : View
  w = table_view t g

  -- A default that is there was there before.
  stays : (s d : ℕ) → g s ≡ some d → f s ≡ some d
  stays s d e = go (drops s)
    where
      go : (g s ≡ none) ⊎ (g s ≡ f s) → f s ≡ some d
      go (inl q) = absurd (none≢some (g s) d q e)
      go (inr q) = sym q ∙ e

  -- A chain that ended ends.
  still_ends : (left s l : ℕ) → chain v left s ≡ some l → (m : ℕ) × (chain w left s ≡ some m)
  still_ends zero s l e = absurd (none≢some none l refl e)
  still_ends (suc left) s l e = go (g s) refl (still_ends left)
    where
      go : (o : Option ℕ) → g s ≡ o → ((d l : ℕ) → chain v left d ≡ some l → (m : ℕ) × (chain w left d ≡ some m))
          → (m : ℕ) × (chained o (λ d. chain w left d) ≡ some m)
      go none q ih = (0, refl)
      go (some d) q ih =
          let z : chained (some d) (λ d. chain v left d) ≡ some l = rw (stays s d q) at e in
          let (m, p, _) = longer_some (chain v left d) l z in
          let (x, r) = ih d m p in
          (suc x, rw r refl)

  -- What could be written still can.
  pub dropped_writable : Writable t f → Writable t g
  dropped_writable W =
      record {
        judged = W.judged;
        inside = λ s d hs q. W.inside s d hs (stays s d q);
        ends = λ s hs. let (l, q) = W.ends s hs in still_ends (table.states t) s l q;
      }

  -- A state stores the class, or it is as before.
  as_before : (c : ℕ) → c < table.classes t → (s : ℕ) → AsBefore v w s c
  as_before c hc s = go (drops s)
    where
      go : (g s ≡ none) ⊎ (g s ≡ f s) → AsBefore v w s c
      go (inl q) = inl (table.next t s c, table_stores t g s c hc ∙ ap (λ (o : Option ℕ). when (differs t g s c o) (table.next t s c)) q)
      go (inr q) = at (differs t g s c (g s)) refl
        where
          same : (o : Option ℕ) → differs t f s c o ≡ differs t g s c o
          same none = refl
          same (some d) = refl

          at : (b : Bool) → differs t g s c (g s) ≡ b → AsBefore v w s c
          at true e = inl (table.next t s c, table_stores t g s c hc ∙ ap (λ (b : Bool). when b (table.next t s c)) e)
          at false e = inr (
            table_stores t g s c hc ∙ ap (λ (b : Bool). when b (table.next t s c)) e,
            table_stores t f s c hc ∙ ap (λ (b : Bool). when b (table.next t s c)) (ap (differs t f s c) (sym q) ∙ same (g s) ∙ e),
            q,
          )

  -- No look-up takes more hops than before, whichever defaults were dropped.
  pub dropped_hops : Writable t f → (s c : ℕ) → s < table.states t → c < table.classes t → (look w s c).hops ≤ (look v s c).hops
  dropped_hops W s c hs hc =
      let (r, found, _) = find-next t f W s c hs hc in
      let (q, e, l) = no_farther v w c (as_before c hc) (table.states t) s r found in
      omega (arith, l, ap hops_of e, ap hops_of found)
