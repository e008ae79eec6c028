-- Rising rows of numbers: how far apart they stand, and that such a row is known by the numbers that stand in it.
use mathlib.Core.Path.{◌≡◌, refl, sym, ap, ◌∙◌}
use mathlib.Core.Bool.{Bool, true, false, true≢false}
use Prim.Native.Nat.{ℕ, zero, suc, ◌+◌, ◌-◌, ◌≤◌, ◌<◌, zero-le}
use native.Mathlib.Nat.{not-suc-le-zero, add-zero, add-suc}
use native.Mathlib.Decide.{ℕ_discrete, dec_lt}
use native.Mathlib.Omega.{arith}
use Rattle.paper.specs.Below.{how_many_of, bit}

-- The first `count` numbers of the row rise.
abbrev pub Rises : (ℕ → ℕ) → ℕ → Type 0
Rises row count = (j : ℕ) → suc j < count → row j < row (suc j)

module _ (row : ℕ → ℕ) (count : ℕ) (up : Rises row count) where
  -- A number e places on is larger by e at least.
  pub rises_by : (i e : ℕ) → i + e < count → row i + e ≤ row (i + e)
  rises_by i zero h = rw (add-zero i) (omega arith)
  rises_by i (suc e) h =
      let k : suc (i + e) < count = omega arith in
      rw (add-suc i e) (omega (arith, rises_by i e (omega arith), up (i + e) k))

  -- A number further on is larger.
  pub ahead : (i j : ℕ) → i < j → j < count → row i < row j
  ahead i zero h hj = absurd (not-suc-le-zero h)
  ahead i (suc j) h hj = go (ℕ_discrete i j) (ahead i j)
    where
      go : Dec (i ≡ j) → (i < j → j < count → row i < row j) → row i < row (suc j)
      go (yes e) ih = rw e (up j hj)
      go (no e) ih = omega (arith, ih (omega arith) (omega arith), up j hj)

  -- A number is not below its place.
  pub place_le : (j : ℕ) → j < count → j ≤ row j
  place_le zero h = zero-le
  place_le (suc j) h = omega (arith, place_le j (omega arith), up j h)

  module _ (k : ℕ) (below : (j : ℕ) → j < count → row j < k) where
    -- There are at most k rising numbers below k.
    pub count_le_bound : count ≤ k
    count_le_bound = go count refl
      where
        go : (c : ℕ) → count ≡ c → count ≤ k
        go zero e = omega arith
        go (suc c) e = omega (arith, place_le c (omega arith), below c (omega arith))

    -- If there are k of them, each stands at its own place.
    pub full_row : count ≡ k → (j : ℕ) → j < count → row j ≡ j
    full_row e j h = go count refl
      where
        go : (c : ℕ) → count ≡ c → row j ≡ j
        go zero q = absurd (omega arith)
        go (suc c) q = last (dec_lt c j)
          where
            last : Dec (c < j) → row j ≡ j
            last (yes l) = absurd (omega arith)
            last (no l) =
                let w : j + (c - j) ≡ c = omega arith in
                omega (arith, place_le j h, rises_by j (c - j) (omega arith), below (j + (c - j)) (omega arith))

-- The row rises, and p tells which numbers stand in it.
pub record Row (row : ℕ → ℕ) (count : ℕ) (p : ℕ → Bool) : Type 0 where
  pub up : Rises row count
  pub hit : (j : ℕ) → j < count → p (row j) ≡ true
  pub only : (c : ℕ) → p c ≡ true → (j : ℕ) × (j < count) × (row j ≡ c)

-- The first r numbers of a row are those below c.
record Cut (row : ℕ → ℕ) (count c r : ℕ) : Type 0 where
  few : r ≤ count
  under : (j : ℕ) → j < r → row j < c
  over : (j : ℕ) → r ≤ j → j < count → c ≤ row j

module _ (row : ℕ → ℕ) (count : ℕ) (p : ℕ → Bool) (R : Row row count p) where
  -- A number of the row stands behind those below it.
  cut_place : (c r j : ℕ) → Cut row count c r → j < count → row j ≡ c → r ≡ j
  cut_place c r j C hj e = go (dec_lt j r) (dec_lt r j)
    where
      go : Dec (j < r) → Dec (r < j) → r ≡ j
      go (yes h) d = absurd (omega (arith, C.under j h))
      go (no h) (yes h') = absurd (omega (arith, ahead row count R.up r j h' hj, C.over r (omega arith) (omega arith)))
      go (no h) (no h') = omega arith

  -- As many of the row are below c as numbers below c stand in it.
  cut : (c : ℕ) → Cut row count c (how_many_of c p)
  cut zero = record { few = zero-le; under = λ j h. absurd (not-suc-le-zero h); over = λ j h hj. zero-le }
  cut (suc c) = go (p c) refl (cut c)
    where
      go : (o : Bool) → p c ≡ o → Cut row count c (how_many_of c p) → Cut row count (suc c) (how_many_of c p + bit o)
      go true q C =
          let (j, hj, e) = R.only c q in
          let w : how_many_of c p ≡ j = cut_place c (how_many_of c p) j C hj e in
          record {
            few = omega arith;
            under = λ x h. at x h (ℕ_discrete x j) w e;
            over = λ x h hx. omega (arith, ahead row count R.up j x (omega arith) hx);
          }
        where
          at : (x : ℕ) {j : ℕ} → x < how_many_of c p + 1 → Dec (x ≡ j) → how_many_of c p ≡ j → row j ≡ c → row x < suc c
          at x h (yes v) w e = rw v (omega arith)
          at x h (no v) w e = omega (arith, C.under x (omega arith))
      go false q C =
          record {
            few = omega (arith, C.few);
            under = λ x h. omega (arith, C.under x (omega arith));
            over = λ x h hx. other x h hx (ℕ_discrete (row x) c);
          }
        where
          other : (x : ℕ) → how_many_of c p + 0 ≤ x → x < count → Dec (row x ≡ c) → suc c ≤ row x
          other x h hx (yes e) = absurd (true≢false (sym (rw (← e) (R.hit x hx)) ∙ q))
          other x h hx (no e) = omega (arith, C.over x (omega arith) hx)

  -- Each number of the row stands behind as many as there are smaller ones in it.
  pub rank : (j : ℕ) → j < count → how_many_of (row j) p ≡ j
  rank j h = cut_place (row j) (how_many_of (row j) p) j (cut (row j)) h refl

  -- All of the row are counted below a bound.
  pub rank_all : (k : ℕ) → ((j : ℕ) → j < count → row j < k) → how_many_of k p ≡ count
  rank_all k small = go (dec_lt (how_many_of k p) count)
    where
      go : Dec (how_many_of k p < count) → how_many_of k p ≡ count
      go (yes h) = absurd (omega (arith, small (how_many_of k p) h, (cut k).over (how_many_of k p) (omega arith) h))
      go (no h) = omega (arith, (cut k).few)

-- Two rising rows in which the same numbers stand are one.
pub same_row : (row row' : ℕ → ℕ) (count count' : ℕ) (p : ℕ → Bool) → Row row count p → Row row' count' p → (j : ℕ) → j < count → row j ≡ row' j
same_row row row' count count' p R R' j h =
    let (i, hi, e) = R'.only (row j) (R.hit j h) in
    let w : i ≡ j = sym (rank row' count' p R' i hi) ∙ ap (λ (c : ℕ). how_many_of c p) e ∙ rank row count p R j h in
    sym e ∙ ap row' w
