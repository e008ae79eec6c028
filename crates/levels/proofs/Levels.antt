-- The level of a state: the start state's is 0, a next state's is at most one more, and every level is below n.
use mathlib.Core.Path.{◌≡◌, refl, sym, ◌∙◌}
use mathlib.Core.List.{List}
use mathlib.Core.Option.{some}
use Prim.Native.Nat.{ℕ, suc, ◌≤◌, ◌<◌}
use borrow.Author.Tests.{eq-eqb}
use Rattle.paper.specs.Table.{states, classes, start, next}
use Rattle.paper.specs.FallBack.{levels, level}
use Rattle.facts.proofs.TableFacts.{AcceptedTable}
use Rattle.levels.proofs.Within.{within, within_first, within_leads, leads_next}
use Rattle.levels.proofs.Ranks.{within_below, within_all}

module _ (t : List ℕ) where
  -- It is the level within n bytes.
  pub level_within : (x : ℕ) → level t x ≡ within t (states t) x
  unfolding levels
  level_within x = refl

  -- A level that some round finds is the level.
  pub level-found : (i x l : ℕ) → x < states t → within t i x ≡ some l → level t x ≡ some l
  level-found i x l h e = level_within x ∙ within_all t i x l h e

  -- Every level is below n.
  pub level_below : (x l : ℕ) → x < states t → level t x ≡ some l → l < states t
  level_below x l h e = within_below t (states t) x l h (sym (level_within x) ∙ e)

  module _ (A : AcceptedTable t) where
    -- The start state is found at once.
    pub start_within : within t 0 (start t) ≡ some 0
    start_within = within_first t (start t) A.begins ∙ rw (eq-eqb (start t) (start t) refl)

    -- The start state has level 0.
    pub level-start : level t (start t) ≡ some 0
    level-start = level-found 0 (start t) 0 A.begins start_within

    -- A next state of a state with a level has one that is at most one more.
    pub level-next : (s c l : ℕ) → s < states t → c < classes t → level t s ≡ some l → (m : ℕ) × (level t (next t s c) ≡ some m) × (m ≤ suc l)
    level-next s c l hs hc e =
        let x = next t s c in
        let hx = A.inside s c hs hc in
        let (m, q, b) = within_leads t (states t) s x l hs hx (sym (level_within s) ∙ e) (leads_next t s c hc) in
        (m, level-found (suc (states t)) x m hx q, b)
