-- The search of all rows, one after the other, with a floor for each row: what is skipped holds no better pair.
use Rattle.std.proofs.Common.{◌≡◌, refl, Bool, true, inl, inr, Option, Some, None, IfSome, ℕ, ◌+◌, ◌≤◌, ◌<◌, List, length, get_or, set, arith}
use native.Mathlib.Decide.{ℕ_discrete}
use Rattle.joining.proofs.Filled.{get_d_set}
use Rattle.best.specs.declared.Pick.{Pick}
use Rattle.best.specs.Picked.{key_found, InRow, First, Found, Picked}
use Rattle.best.specs.Searched.{InRows, Floors, Searched}

module _ (n : ℕ) (fits : ℕ → ℕ → Bool) (key : ℕ → ℕ → ℕ) where
  -- What goes ahead of a pair has no larger key.
  first_le : (p : Option Pick) (x y : ℕ) → First n fits key p x y → key_found p ≤ key x y
  first_le None x y f = absurd f
  first_le (Some p) x y (inl l) = omega arith
  first_le (Some p) x y (inr e) = omega (arith, e.0)

  -- What is found in the rows before is found.
  found_more : (i : ℕ) (p : Option Pick) → IfSome p (Found n fits key (InRows i)) → IfSome p (Found n fits key (InRows (i + 1)))
  found_more i None f = f
  found_more i (Some p) f = record { rising = f.rising; inside = f.inside; member = omega (arith, f.member); fit = f.fit; keyed = f.keyed }

  -- So is what is found in this row.
  found_here : (i : ℕ) (p : Option Pick) → IfSome p (Found n fits key (InRow i n)) → IfSome p (Found n fits key (InRows (i + 1)))
  found_here i None f = f
  found_here i (Some p) f = record { rising = f.rising; inside = f.inside; member = omega (arith, f.member.0); fit = f.fit; keyed = f.keyed }

  -- A pair found in the rows before goes ahead of a pair of this row whose key is not smaller; where none is found no key is as large.
  stays : (i y : ℕ) (p : Option Pick) → IfSome p (Found n fits key (InRows i)) → key i y < 65536 → key_found p ≤ key i y → First n fits key p i y
  stays i y None f small l = omega arith
  stays i y (Some p) f small l = elim (ℕ_discrete p.key (key i y)) [ yes e ↦ inr (e, inl f.member) | no e ↦ inl (omega arith) ]

  -- A pair with a smaller key than one that goes ahead goes ahead too.
  passes : (r p : Option Pick) (x y : ℕ) → key x y < 65536 → key_found r < key_found p → First n fits key p x y → First n fits key r x y
  passes None p x y small l f = omega (arith, first_le p x y f)
  passes (Some r) p x y small l f = inl (omega (arith, first_le p x y f))

  module _ (small : (x y : ℕ) → fits x y ≡ true → key x y < 65536) (i : ℕ) (low₀ low : List ℕ) (p : Option Pick) (S : Searched n fits key i low₀ low p) where
    -- It goes ahead in all rows up to this one, where its key is no larger than that of any pair of this row.
    ahead_more : (Floors n fits key low₀ → (y : ℕ) → i < y → y < n → fits i y ≡ true → key_found p ≤ key i y) → Floors n fits key low₀
        → (x y : ℕ) → x < y → y < n → x < i + 1 → fits x y ≡ true → First n fits key p x y
    ahead_more larger L x y r b m f = go (ℕ_discrete x i)
      where
        go : Dec (x ≡ i) → First n fits key p x y
        go (yes e) = let g : fits i y ≡ true = rw e at f in rw e (stays i y p S.one (small i y g) (larger L y (rw e at r) b g))
        go (no e) = S.ahead L x y r b (omega arith) f

    -- A row whose floor is not below the best key is skipped.
    pub searched_skips : key_found p ≤ get_or low i 0 → Searched n fits key (i + 1) low₀ low p
    searched_skips l =
        record {
          one = found_more i p S.one;
          ahead = ahead_more (λ L y r b f. omega (arith, l, S.floors L i y r b f));
          floors = S.floors;
        }

    module _ (long : i < length low) (row : Option Pick) (R : Picked n fits key (InRow i n) row) (a : ℕ) (e : a ≡ key_found row) where
      -- No key of the row is below its best.
      row_least : (y : ℕ) → i < y → y < n → fits i y ≡ true → a ≤ key i y
      row_least y r b f = omega (arith, e, first_le row i y (R.ahead i y r b (refl, b) f))

      -- The row's floor is renewed.
      renewed : Floors n fits key low₀ → Floors n fits key (set low i a)
      renewed L x y r b f =
          get_d_set (λ z. z ≤ key x y) low i x a long
          (λ q. let g : fits i y ≡ true = rw q at f in rw q (row_least y (rw q at r) b g)) (λ e. S.floors L x y r b f)

      -- The row has no better pair.
      pub searched_worse : key_found p ≤ a → Searched n fits key (i + 1) low₀ (set low i a) p
      searched_worse l =
          record {
            one = found_more i p S.one;
            ahead = ahead_more (λ L y r b f. omega (arith, l, row_least y r b f));
            floors = renewed;
          }

      -- The row's best pair is better.
      pub searched_better : a < key_found p → Searched n fits key (i + 1) low₀ (set low i a) row
      searched_better l =
          record {
            one = found_here i row R.one;
            ahead = λ L x y r b m f. elim (ℕ_discrete x i) [
              | yes q ↦ R.ahead x y r b (q, b) f
              | no q ↦ passes row p x y (small x y f) (omega arith) (S.ahead L x y r b (omega arith) f)
            ];
            floors = renewed;
          }
