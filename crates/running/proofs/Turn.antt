-- What one byte makes of the running scan, and the labels of the state that it leads to, as the loop's laws ask for them.
use mathlib.Core.Path.{◌≡◌, sym, ap, ◌∙◌}
use mathlib.Core.List.{List}
use Prim.Native.Nat.{ℕ, ◌+◌, ◌*◌, ◌≤◌, ◌<◌}
use native.Mathlib.Omega.{arith}
use lib.ListN.{length, get_or}
use Rattle.paper.specs.Labels.{two}
use Rattle.labels.specs.Editions.{edition_in}
use Rattle.labels.specs.Tags.{tag_of, many_of, tagged}
use Rattle.labels.proofs.Tags.{labels-tagged, many_tagged, tagged_in}
use Rattle.running.specs.declared.automaton.Run.{Run}
use Rattle.running.specs.declared.tags.Tags.{Tags}
use Rattle.running.specs.Rules.{Rules, found_on, Reached, Labelled}
use Rattle.running.specs.Running.{went_of}

-- The labels that the tag of a state stands for.
abbrev pub spoken : Tags → ℕ → ℕ → List ℕ
spoken T state tag = tagged (edition_in T.labels.edition) T.labels.bytes.now (T.labels.at + 2 * get_or T.firsts.now state 0) tag

-- The running scan went on by a byte to a state whose tag was read.
pub record Turned (R : Rules) (T : Tags) (r r' : Run) (x tag : ℕ) : Type 0 where
  pub state_is : r'.state ≡ (found_on R r.state x).target
  pub hops_are : r'.hops ≡ r.hops + (found_on R r.state x).hops
  pub reports_are : r'.reports ≡ r.reports
  pub reached : Reached R.states (found_on R r.state x).target (found_on R r.state x).hops
  pub inside : r'.state < T.labels.n
  pub labels_so : R.labels (found_on R r.state x).target ≡ spoken T r'.state tag
  pub many : many_of (edition_in T.labels.edition) tag ≡ length (spoken T r'.state tag)
  pub few : length (spoken T r'.state tag) ≤ 16
  pub there : edition_in T.labels.edition ≡ two → T.labels.at + 2 * get_or T.firsts.now r'.state 0 + 2 * tag ≤ length T.labels.bytes.now

-- It is in one of the states again.
pub went_below : (R : Rules) (r r' : Run) (x : ℕ) → r' ≡ went_of R r x → Reached R.states (found_on R r.state x).target (found_on R r.state x).hops → r'.state < R.states
unfolding went_of
went_below R r r' x went F = omega (arith, F.inside, ap (λ (q : Run). q.state) went)

module _ {R : Rules} (T : Tags) (L : Labelled R T.labels.bytes.now T.labels.at T.labels.n (edition_in T.labels.edition)) (r r' : Run) (x : ℕ) (went : r' ≡ went_of R r x)
    (F : Reached R.states (found_on R r.state x).target (found_on R r.state x).hops) where
  -- The state that it leads to.
  went_state : r'.state ≡ (found_on R r.state x).target
  unfolding went_of
  went_state = ap (λ (q : Run). q.state) went

  -- It is one of those that have labels.
  pub went_inside : r'.state < T.labels.n
  went_inside = omega (arith, went_state, F.inside, L.states_are)

  -- So it is one of the first 512.
  pub went_small : r'.state < 512
  went_small = omega (arith, went_inside, T.few_states)

  went_hops : r'.hops ≡ r.hops + (found_on R r.state x).hops
  unfolding went_of
  went_hops = ap (λ (q : Run). q.hops) went

  went_reports : r'.reports ≡ r.reports
  unfolding went_of
  went_reports = ap (λ (q : Run). q.reports) went

  -- Its labels are those that its tag stands for.
  stands : (tag : ℕ) → tag ≡ tag_of T.labels.bytes.now T.labels.at r'.state → R.labels r'.state ≡ spoken T r'.state tag
  stands tag e =
      rw e (L.labels_are r'.state went_inside ∙ labels-tagged T.labels.bytes.now T.labels.at T.labels.n (edition_in T.labels.edition) T.firsts.now T.firsts_are r'.state went_inside)

  pub turned : (tag : ℕ) → tag ≡ tag_of T.labels.bytes.now T.labels.at r'.state → Turned R T r r' x tag
  turned tag e =
      let b = T.labels.bytes.now in
      let at = T.labels.at in
      let n = T.labels.n in
      let ed = edition_in T.labels.edition in
      let same : length (spoken T r'.state tag) ≤ 16 = rw (← stands tag e, L.labels_are r'.state went_inside) (T.few r'.state went_inside) in
      record {
        state_is = went_state;
        hops_are = went_hops;
        reports_are = went_reports;
        reached = F;
        inside = went_inside;
        labels_so = ap R.labels (sym went_state) ∙ stands tag e;
        many = sym (many_tagged ed b (at + 2 * get_or T.firsts.now r'.state 0) tag);
        few = same;
        there = λ q. rw e (tagged_in b at n ed T.firsts.now T.firsts_are r'.state went_inside q T.there);
      }
