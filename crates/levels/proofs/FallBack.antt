-- The defaults of order 3: each lowers the level, so chains end, and along a chain every hop is a level.
use mathlib.Core.Path.{◌≡◌, refl, sym, ap, ◌∙◌}
use mathlib.Core.Bool.{Bool, true, cond, ◌&&◌, true≢false}
use mathlib.Core.List.{List}
use mathlib.Core.Option.{Option, none, some}
use Prim.Native.Nat.{ℕ, zero, suc, ◌+◌, ◌≤◌, ◌<◌}
use native.Mathlib.Omega.{arith}
use lib.Dec.{leb}
use borrow.Author.Tests.{ltb-true, leb-true}
use Rattle.paper.specs.Below.{when, or}
use Rattle.paper.specs.Table.{states, shared}
use Rattle.paper.specs.View.{chain, steps, and_then}
use Rattle.paper.specs.Results.{table_view}
use Rattle.paper.specs.FallBack.{level, lower, shares_most, toward_start}
use Rattle.paper.proofs.Below.{and_true, every_at, first_of_some}
use Rattle.paper.proofs.Tests.{none≢some}
use Rattle.paper.proofs.Chain.{Inside, some_same, chain-falls}
use Rattle.facts.proofs.TableFacts.{AcceptedTable}
use Rattle.levels.proofs.Within.{when_is}
use Rattle.levels.proofs.Levels.{level_below}

-- A level that is lower than another: both are there.
pub lower_is : (o p : Option ℕ) → lower o p ≡ true → (a : ℕ) × (b : ℕ) × (o ≡ some a) × (p ≡ some b) × (a < b)
lower_is none p e = absurd (true≢false (sym e))
lower_is (some a) none e = absurd (true≢false (sym e))
lower_is (some a) (some b) e = (a, b, refl, refl, ltb-true a b e)

-- What the default d of a state x is: a state of lower level that shares at least two classes with x, and no other of lower level shares more.
pub record Falls (t : List ℕ) (x d : ℕ) : Type 0 where
  pub inside : d < states t
  pub low : ℕ
  pub high : ℕ
  pub low_is : level t d ≡ some low
  pub high_is : level t x ≡ some high
  pub lowers : low < high
  pub two : 2 ≤ shared t x d
  pub most : (z : ℕ) → z < states t → lower (level t z) (level t x) ≡ true → shared t x z ≤ shared t x d

module _ (t : List ℕ) where
  -- A default is such.
  pub falls : (x d : ℕ) → toward_start t x ≡ some d → Falls t x d
  unfolding toward_start
  falls x d e =
      let test : ℕ → Bool = λ y. lower (level t y) (level t x) && (leb 2 (shared t x y) && shares_most t (level t) x y) in
      let (y, hy, q) = first_of_some (λ y. when (test y) y) (states t) d e in
      let (passed, z) = when_is (test y) y d q in
      let (l, r) = and_true (lower (level t y) (level t x)) (leb 2 (shared t x y) && shares_most t (level t) x y) passed in
      let (two, most) = and_true (leb 2 (shared t x y)) (shares_most t (level t) x y) r in
      let (a, b, qa, qb, less) = lower_is (level t y) (level t x) l in
      rw (← z)
      (record {
        inside = hy;
        low = a;
        high = b;
        low_is = qa;
        high_is = qb;
        lowers = less;
        two = leb-true 2 (shared t x y) two;
        most = λ w hw lw. leb-true (shared t x w) (shared t x y)
            (rw lw at (every_at (states t) w (λ w. cond (lower (level t w) (level t x)) (leb (shared t x w) (shared t x y)) true) most hw));
      })

  -- A state that is not reached has no default.
  pub falls_unreached : (x : ℕ) → level t x ≡ none → toward_start t x ≡ none
  falls_unreached x e = go (toward_start t x) refl
    where
      go : (o : Option ℕ) → toward_start t x ≡ o → toward_start t x ≡ none
      go none q = q
      go (some d) q = let F = falls x d q in absurd (none≢some (level t x) F.high e F.high_is)

  -- The defaults are below n.
  pub falls_inside : Inside (table_view t (toward_start t))
  falls_inside s d h e = (falls s d e).inside

  -- Their chains end.
  pub falls-ends : AcceptedTable t → (s : ℕ) → s < states t → (l : ℕ) × (chain (table_view t (toward_start t)) (states t) s ≡ some l)
  falls-ends A s h =
      chain-falls (table_view t (toward_start t)) rank falls_inside
      (λ s d hs e. let F = falls s d e in omega (arith, F.lowers, ap (λ (o : Option ℕ). or o 0) F.low_is, ap (λ (o : Option ℕ). or o 0) F.high_is))
      (states t) s h (below (level t s) refl)
    where
      rank : ℕ → ℕ
      rank x = or (level t x) 0

      below : (o : Option ℕ) → level t s ≡ o → rank s < states t
      below none q = rw q (omega (arith, A.some_states))
      below (some l) q = rw q (level_below t s l h q)

  -- So many steps along a chain lower the level by at least as much.
  pub steps-lower : (i s x l : ℕ) → level t s ≡ some l → steps (table_view t (toward_start t)) i s ≡ some x → (m : ℕ) × (level t x ≡ some m) × (m + i ≤ l)
  steps-lower zero s x l e q = (l, ap (level t) (sym (some_same q)) ∙ e, omega arith)
  steps-lower (suc i) s x l e q = go (toward_start t s) refl q (steps-lower i)
    where
      go : (o : Option ℕ) → toward_start t s ≡ o → and_then o (λ d. steps (table_view t (toward_start t)) i d) ≡ some x
          → ((s x l : ℕ) → level t s ≡ some l → steps (table_view t (toward_start t)) i s ≡ some x → (m : ℕ) × (level t x ≡ some m) × (m + i ≤ l))
          → (m : ℕ) × (level t x ≡ some m) × (m + suc i ≤ l)
      go none w q ih = absurd (none≢some none x refl q)
      go (some d) w q ih =
          let F = falls s d w in
          let (m, r, b) = ih d x F.low F.low_is q in
          (m, r, omega (arith, F.lowers, some_same (sym e ∙ F.high_is)))
