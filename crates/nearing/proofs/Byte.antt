-- One byte in order 3: the hops of its look-up are at most the level before, and with the level that it leads to at most one more than that.
use mathlib.Core.Path.{◌≡◌, sym, ap, ◌∙◌}
use mathlib.Core.List.{List}
use mathlib.Core.Option.{Option, some}
use Prim.Native.Nat.{ℕ, suc, ◌+◌, ◌≤◌, ◌<◌}
use native.Mathlib.Omega.{arith}
use Rattle.paper.specs.Below.{or}
use Rattle.paper.specs.Table.{states, classes, next}
use Rattle.paper.specs.View.{View, Found, here, look}
use Rattle.paper.specs.Results.{table_view}
use Rattle.paper.specs.FallBack.{level, toward_start}
use Rattle.paper.specs.Operations.{judge_table_of}
use Rattle.paper.specs.Sentences.{Serves}
use Rattle.paper.proofs.Chain.{steps_inside}
use Rattle.paper.proofs.Look.{look_serves}
use Rattle.facts.proofs.TableFacts.{accepted_table}
use Rattle.trips.proofs.TableViews.{keeps, table_stores}
use Rattle.trips.proofs.Writable.{find-next}
use Rattle.trips.proofs.DefaultsWritable.{start_writable}
use Rattle.levels.proofs.Within.{when_is}
use Rattle.levels.proofs.Levels.{level-next}
use Rattle.levels.proofs.FallBack.{falls_inside, steps-lower}

module _ (t : List ℕ) (e : judge_table_of t ≡ 0) where
  -- The table with the defaults of order 3.
  abbrev v : View
  v = table_view t (toward_start t)

  -- The state that serves a class after so many hops has a level that is lower by at least as much, and the class leads from both to one state.
  server_lower : (s c l server hops target : ℕ) → s < states t → c < classes t → level t s ≡ some l → Serves (table_view t (toward_start t)) s c server hops target
      → (m : ℕ) × (level t server ≡ some m) × (m + hops ≤ l) × (server < states t) × (next t server c ≡ target)
  server_lower s c l server hops target hs hc q S =
      let (m, w, b) = steps-lower t hops s server l q S.reached in
      let (_, z) = when_is (keeps t (toward_start t) server c) (next t server c) target (sym (table_stores t (toward_start t) server c hc) ∙ S.stores) in
      (m, w, b, steps_inside v (falls_inside t) hops s server hs S.reached, z)

  -- A look-up gives the table's next state.
  pub look-next : (s c : ℕ) → s < states t → c < classes t → (look (table_view t (toward_start t)) s c).target ≡ next t s c
  look-next s c hs hc =
      let (r, found, target) = find-next t (toward_start t) (start_writable t e) s c hs hc in
      ap (λ (o : Option Found). (or o (here 0 0)).target) found ∙ target

  -- Its hops are at most the state's level, and with the next state's level at most one more than that.
  pub look-lower : (s c l : ℕ) → s < states t → c < classes t → level t s ≡ some l
      → ((look (table_view t (toward_start t)) s c).hops ≤ l) × ((m : ℕ) × (level t (next t s c) ≡ some m) × ((look (table_view t (toward_start t)) s c).hops + m ≤ suc l))
  look-lower s c l hs hc q =
      let (r, found, target) = find-next t (toward_start t) (start_writable t e) s c hs hc in
      let S = look_serves v c (states t) s r found in
      let (a, w, b, below, z) = server_lower s c l r.server r.hops r.target hs hc q S in
      let (m, w', b') = level-next t (accepted_table t e) r.server c a below hc w in
      let same = ap (λ (o : Option Found). (or o (here 0 0)).hops) found in
      (omega (arith, same), (m, ap (level t) (sym (z ∙ target)) ∙ w', omega (arith, same)))
