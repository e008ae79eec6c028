-- The best pair found in the arrays is the best pair that can be added to the trees that they hold, and the rows' floors are floors there.
use mathlib.Core.Path.{◌≡◌, sym, ◌∙◌}
use mathlib.Core.Bool.{Bool, true}
use mathlib.Core.Logic.{inl, inr}
use mathlib.Core.List.{List}
use Prim.Native.Nat.{ℕ, ◌≤◌, ◌<◌}
use native.Mathlib.Omega.{arith}
use lib.ListN.{get_or}
use Rattle.paper.specs.Forest.{Trees, longest, rest}
use Rattle.paper.proofs.Below.{largest_same}
use Rattle.paper.specs.BestPair.{Weighs, Viable, Best, NoneViable}
use Rattle.pairs.specs.Taken.{is_taken}
use Rattle.greedy.specs.Good.{Good}
use Rattle.pairs.specs.Keys.{key_in}
use Rattle.best.specs.Longs.{LongestIn}
use Rattle.std.proofs.Common.{Some, None}
use Rattle.best.specs.declared.Pick.{Pick}
use Rattle.best.specs.Picked.{Found, Leads}
use Rattle.best.specs.Searched.{InRows, Floors}
use Rattle.pairs.proofs.Keys.{key_rest, fits_small}
use Rattle.greedy.proofs.Pair.{test_viable, viable_test}

module _ (n order D : ℕ) (weight : ℕ → ℕ → ℕ) (w : ℕ) where
  -- No pair that can be added to F goes by a number below its row's floor.
  abbrev pub Under : Trees → List ℕ → Type 0
  Under F low = (q : ℕ × ℕ) → Weighs n weight w q → Viable n D F q → get_or low q.0 0 ≤ rest order n F q

  module _ (small : n ≤ 512) (bound : D < 65536) (far parent tree long : List ℕ) (longs : LongestIn n far tree long) (F : Trees) (G : Good n D F far parent tree) where
    -- The test of a pair, by the arrays.
    abbrev fits : ℕ → ℕ → Bool
    fits u v = is_taken (weight u v) w (get_or tree u 0) (get_or tree v 0) (get_or far u 0) (get_or far v 0) D

    -- Its key, by the arrays.
    abbrev key : ℕ → ℕ → ℕ
    key = key_in order far long

    -- The longest paths in the array are those of the trees held.
    long_held : (x : ℕ) → x < n → get_or long x 0 ≡ longest n F x
    unfolding longest
    long_held x l =
        let H = G.held in
        let low : F.tree x < n = G.grown.inside x (F.tree x) l (G.grown.named x) in
        longs x l (omega (arith, H.numbers x l))
        ∙ largest_same n _ _ (λ y k. rw (H.numbers x l, H.numbers y k, H.farthest y k))

    -- So the key in the arrays is what the order goes by.
    key_held : (u v : ℕ) → u < n → v < n → key u v ≡ rest order n F (u, v)
    key_held u v ub vb =
        let H = G.held in
        rw (H.farthest u ub, H.farthest v vb, long_held u ub, long_held v vb) (key_rest order n F u v)

    module _ (q : ℕ × ℕ) (W : Weighs n weight w q) (able : Viable n D F q) where
      -- A pair that can be added fits.
      viable_fits : fits q.0 q.1 ≡ true
      viable_fits = viable_test n D q.0 q.1 W.rising W.inside F far parent tree G weight w W.heavy able

      -- Its key is what the order goes by.
      viable_key : key q.0 q.1 ≡ rest order n F q
      viable_key = key_held q.0 q.1 (omega (arith, W.rising, W.inside)) W.inside

      -- That is below 65536.
      pub viable_small : rest order n F q < 65536
      viable_small = omega (arith, sym viable_key, fits_small weight w order D far tree long bound q.0 q.1 viable_fits)

    -- A pair that fits can be added.
    fits_viable : (x y : ℕ) → x < y → y < n → fits x y ≡ true → (Weighs n weight w (x, y)) × (Viable n D F (x, y))
    fits_viable x y r b f =
        let (heavy, able) = test_viable n D x y r b F far parent tree G weight w (sym f) in
        (record { rising = r; inside = b; heavy = heavy }, able)

    -- Floors for the trees are floors for the arrays.
    pub floors_held : (low : List ℕ) → Under F low → Floors n fits key low
    floors_held low U x y r b f =
        let (W, able) = fits_viable x y r b f in
        omega (arith, U (x, y) W able, viable_key (x, y) W able)

    -- And the other way.
    pub floors_back : (low : List ℕ) → Floors n fits key low → Under F low
    floors_back low B q W able = omega (arith, B q.0 q.1 W.rising W.inside (viable_fits q W able), viable_key q W able)

    -- Where none is found none can be added.
    pub picked_none : Leads n fits key (InRows n) None → NoneViable n (rest order n) D weight w F
    picked_none L q W able = L q.0 q.1 W.rising W.inside (omega (arith, W.rising, W.inside)) (viable_fits q W able)

    -- The pair found is the best that can be added.
    pub picked_best : (p : Pick) → Found n fits key (InRows n) p → Leads n fits key (InRows n) (Some p) → Best n (rest order n) D weight w F (p.u, p.v)
    picked_best p f L =
        let (weighs, able) = fits_viable p.u p.v f.rising f.inside f.fit in
        let own = f.keyed ∙ viable_key (p.u, p.v) weighs able in
        record {
          weighs = weighs;
          viable = able;
          ahead = λ q W can.
              elim (L q.0 q.1 W.rising W.inside (omega (arith, W.rising, W.inside)) (viable_fits q W can)) [
                | inl h ↦ inl (omega (arith, h, own, viable_key q W can))
                | inr h ↦ inr (sym own ∙ h.0 ∙ viable_key q W can, h.1)
              ];
        }
