-- By levels in an array: the first state of lower level that shares the most classes is the default of order 3.
use mathlib.Core.Path.{◌≡◌, refl, sym, ap, ◌∙◌}
use mathlib.Core.Bool.{Bool, true, false, cond, ◌&&◌}
use mathlib.Core.List.{List}
use mathlib.Core.Logic.{◌⊎◌, inl, inr}
use mathlib.Core.Option.{Option, none, some}
use Prim.Native.Nat.{ℕ, ◌≤◌, ◌<◌}
use native.Mathlib.Omega.{arith}
use lib.Dec.{ltb, leb}
use lib.ListN.{get_or}
use borrow.Author.Tests.{ne_eqb, le-ltb, le-leb, leb-true}
use Rattle.paper.specs.Below.{when, or}
use Rattle.paper.specs.Table.{states, shared}
use Rattle.paper.specs.FallBack.{level, lower, shares_most, toward_start}
use Rattle.paper.proofs.Below.{bool_false, and_true, every_all, every_at, first_of_none, first_of_at}
use Rattle.levels.proofs.Levels.{level_below}
use Rattle.levels.proofs.FallBack.{falls_unreached}
use Rattle.weights.specs.Chosen.{Stands}
use Rattle.toward.specs.Marked.{LevelsIn}
use Rattle.toward.specs.Found.{candidate}
use Rattle.toward.proofs.Picked.{First, Picked}

module _ (t : List ℕ) (n : ℕ) (few : n ≤ 512) (en : n ≡ states t) (levels : List ℕ) (L : LevelsIn t n levels) (x : ℕ) (hx : x < n) where
  -- A state that has no level in the array has no default.
  pub unreached_falls : get_or levels x 0 ≡ 65535 → Stands n (toward_start t x) 65535
  unreached_falls e = record { default_is = sym (falls_unreached t x (go (level t x) refl)); state_is = inl refl }
    where
      go : (o : Option ℕ) → level t x ≡ o → level t x ≡ none
      go none q = q
      go (some l) q = absurd (omega (arith, level_below t x l (omega arith) q, sym (L x hx ∙ ap (λ (o : Option ℕ). or o 65535) q) ∙ e))

  module _ (l : ℕ) (e : level t x ≡ some l) where
    -- The arrays tell which state is of lower level.
    lower_in : (y : ℕ) → y < n → ltb (get_or levels y 0) (get_or levels x 0) ≡ lower (level t y) (level t x)
    lower_in y hy = rw (L y hy, L x hx, e) (go (level t y))
      where
        go : (o : Option ℕ) → ltb (or o 65535) l ≡ lower o (some l)
        go none = le-ltb 65535 l (omega (arith, level_below t x l (omega arith) e))
        go (some m) = refl

    -- What is looked at for each state: of one of lower level the classes shared, else 0.
    candidate_is : (y : ℕ) → y < n → candidate t levels x y ≡ cond (lower (level t y) (level t x)) (shared t x y) 0
    candidate_is y hy = rw (lower_in y hy)

    -- The test that finds the default.
    abbrev test : ℕ → Bool
    test y = lower (level t y) (level t x) && (leb 2 (shared t x y) && shares_most t (level t) x y)

    -- What a state that passes it is.
    test_is : (y : ℕ) → y < n → test y ≡ true
        → (candidate t levels x y ≡ shared t x y) × (2 ≤ shared t x y) × ((z : ℕ) → z < n → lower (level t z) (level t x) ≡ true → shared t x z ≤ shared t x y)
    test_is y hy q =
        let (a, b) = and_true (lower (level t y) (level t x)) (leb 2 (shared t x y) && shares_most t (level t) x y) q in
        let (c, d) = and_true (leb 2 (shared t x y)) (shares_most t (level t) x y) b in (
          candidate_is y hy ∙ rw a,
          leb-true 2 (shared t x y) c,
          λ z hz w. leb-true (shared t x z) (shared t x y)
              (rw w at (every_at (states t) z (λ z. cond (lower (level t z) (level t x)) (leb (shared t x z) (shared t x y)) true) d (omega arith))),
        )

    -- Where no candidate is above 1 there is no default.
    none_falls : ((z : ℕ) → z < n → candidate t levels x z ≤ 1) → toward_start t x ≡ none
    unfolding toward_start
    none_falls none_above =
        first_of_none (states t) test
        (λ y hy. bool_false (test y) (λ q. let (a, b, _) = test_is y (omega arith) q in omega (arith, none_above y (omega arith))))

    -- A candidate above 0 is a state of lower level.
    candidate-lower : (y : ℕ) → y < n → 0 < candidate t levels x y → (lower (level t y) (level t x) ≡ true) × (candidate t levels x y ≡ shared t x y)
    candidate-lower y hy h = go (lower (level t y) (level t x)) refl
      where
        go : (b : Bool) → lower (level t y) (level t x) ≡ b → (lower (level t y) (level t x) ≡ true) × (candidate t levels x y ≡ shared t x y)
        go true q = (q, candidate_is y hy ∙ rw q)
        go false q = absurd (omega (arith, candidate_is y hy ∙ ap (λ (b : Bool). cond b (shared t x y) 0) q))

    -- The first largest candidate is the default.
    first_falls : (best y : ℕ) → ((z : ℕ) → z < n → candidate t levels x z ≤ best) → First (candidate t levels x) n best y → toward_start t x ≡ some y
    unfolding toward_start
    first_falls best y most F =
        let hy = F.below in
        let (low, is) = candidate-lower y hy (omega (arith, F.above, F.value_is)) in
        let two : 2 ≤ shared t x y = omega (arith, F.above, F.value_is) in
        let no_more : (z : ℕ) → z < n → lower (level t z) (level t x) ≡ true → shared t x z ≤ shared t x y = λ z hz w.
        let c : candidate t levels x z ≡ shared t x z = candidate_is z hz ∙ rw w in
        omega (arith, most z hz, F.value_is) in
        let passes : test y ≡ true =
        rw (low, le-leb 2 (shared t x y) two)
        (every_all (states t) (λ z. cond (lower (level t z) (level t x)) (leb (shared t x z) (shared t x y)) true)
        (λ z hz. at z (lower (level t z) (level t x)) (no_more z (omega arith)))) in
        first_of_at (λ z. when (test z) z) (states t) y y (omega arith)
        (λ z hz. ap (λ (b : Bool). when b z)
        (bool_false (test z) (λ q. let (a, b, c) = test_is z (omega arith) q in omega (arith, F.before z hz, F.value_is, c y hy low))))
        (ap (λ (b : Bool). when b y) passes)
      where
        at : (z : ℕ) (b : Bool) → (b ≡ true → shared t x z ≤ shared t x y) → cond b (leb (shared t x z) (shared t x y)) true ≡ true
        at z true h = le-leb (shared t x z) (shared t x y) (h refl)
        at z false h = refl

    -- What was picked among all states is the default.
    picked_level : (best at : ℕ) → Picked (candidate t levels x) n best at → Stands n (toward_start t x) at
    picked_level best at P = go P.found
      where
        go : ((best ≡ 1) × (at ≡ 65535)) ⊎ First (candidate t levels x) n best at → Stands n (toward_start t x) at
        go (inl (w, q)) = rw q (record { default_is = sym (none_falls (λ z hz. omega (arith, w, P.most z hz))); state_is = inl refl })
        go (inr F) =
            record {
              default_is = rw (ne_eqb at 65535 (λ z. omega (arith, F.below))) (sym (first_falls best at P.most F));
              state_is = inr F.below;
            }

  -- So it is for every state that has a level in the array.
  pub picked_falls : (best at : ℕ) → ¬ (get_or levels x 0 ≡ 65535) → Picked (candidate t levels x) n best at → Stands n (toward_start t x) at
  picked_falls best at ne P = go (level t x) refl
    where
      go : (o : Option ℕ) → level t x ≡ o → Stands n (toward_start t x) at
      go none q = absurd (ne (L x hx ∙ ap (λ (o : Option ℕ). or o 65535) q))
      go (some l) q = picked_level l q best at P
