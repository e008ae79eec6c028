-- Classes of bytes: those in no string share class 0, every other has one alone, and every class has a byte.
use mathlib.Core.Path.{◌≡◌, refl, ap}
use mathlib.Core.Bool.{Bool, true, false, not}
use mathlib.Core.Logic.{◌⊎◌, inl, inr}
use mathlib.Core.List.{List}
use Prim.Native.Nat.{ℕ, zero, suc, ◌+◌, ◌-◌, ◌≤◌, ◌<◌}
use native.Mathlib.Nat.{not-suc-le-zero}
use native.Mathlib.Decide.{dec_lt}
use native.Mathlib.Omega.{arith}
use borrow.Author.Tests.{not-true}
use Rattle.paper.specs.Below.{any, bit, how_many_of}
use Rattle.paper.specs.Strings.{Rule, used, spare, classes, class_of}
use Rattle.paper.proofs.Below.{any_found, any_some}
use Rattle.paper.proofs.Sums.{sum-before}
use Rattle.paper.proofs.Counts.{bit_le, count_le, count_both, count-found}

-- Of the numbers that pass a test there is one behind just so many others.
pub counted_at : (n c : ℕ) (p : ℕ → Bool) → c < how_many_of n p → (x : ℕ) × (x < n) × (p x ≡ true) × (how_many_of x p ≡ c)
counted_at zero c p h = absurd (not-suc-le-zero h)
counted_at (suc n) c p h = go (dec_lt c (how_many_of n p)) (p n) refl (counted_at n c p)
  where
    go : Dec (c < how_many_of n p) → (b : Bool) → p n ≡ b → (c < how_many_of n p → (x : ℕ) × (x < n) × (p x ≡ true) × (how_many_of x p ≡ c))
        → (x : ℕ) × (x < suc n) × (p x ≡ true) × (how_many_of x p ≡ c)
    go (yes l) b q ih = let (x, hx, e, m) = ih l in (x, omega arith, e, m)
    go (no l) true q ih = (n, omega arith, q, omega (arith, bit_le (p n)))
    go (no l) false q ih = absurd (omega (arith, ap bit q))

-- A number that passes has fewer before it than any later number.
pub counted_before : (x y : ℕ) (p : ℕ → Bool) → p x ≡ true → x < y → how_many_of x p < how_many_of y p
counted_before x y p e h = omega (arith, sum-before y x (λ i. bit (p i)) h, ap bit e)

-- At most all pass,
with_none : (n : ℕ) (p : ℕ → Bool) → 0 + how_many_of n p ≤ n
with_none n p = omega (arith, count_le n p)

-- and fewer where one does not.
with_one : (n : ℕ) (p : ℕ → Bool) → 1 ≤ how_many_of n (λ x. not (p x)) → 1 + how_many_of n p ≤ n
with_one n p h = omega (arith, count_both n p)

module _ (rs : List Rule) where
  -- The class of a used byte.
  pub class_used : (x : ℕ) → used rs x ≡ true → class_of rs x ≡ spare rs + how_many_of x (used rs)
  unfolding class_of
  class_used x e = rw e refl

  -- The class of a byte in no string.
  pub class_unused : (x : ℕ) → used rs x ≡ false → class_of rs x ≡ 0
  unfolding class_of
  class_unused x e = rw e refl

  -- Where a byte is in no string class 0 is kept for it.
  pub spare_one : (x : ℕ) → x < 256 → used rs x ≡ false → spare rs ≡ 1
  unfolding spare
  spare_one x h e = ap bit (any_found 256 x (λ x. not (used rs x)) h (ap not e))

  -- Class 0 is kept only where some byte is in no string.
  spare_some : 0 < spare rs → (x : ℕ) × (x < 256) × (used rs x ≡ false)
  unfolding spare
  spare_some h = go (any 256 (λ x. not (used rs x))) refl h
    where
      go : (b : Bool) → any 256 (λ x. not (used rs x)) ≡ b → 0 < bit b → (x : ℕ) × (x < 256) × (used rs x ≡ false)
      go true q l = let (x, hx, e) = any_some 256 (λ x. not (used rs x)) q in (x, hx, not-true (used rs x) e)
      go false q l = absurd (omega arith)

  -- At most one class is kept.
  pub spare_le : spare rs ≤ 1
  unfolding spare
  spare_le = bit_le (any 256 (λ x. not (used rs x)))

  -- The number of used bytes.
  unfoldable used_bytes : ℕ
  used_bytes = how_many_of 256 (used rs)

  -- k is the kept class and one for each used byte.
  classes_are : classes rs ≡ spare rs + used_bytes
  unfolding classes used_bytes
  classes_are = refl

  -- A used byte has fewer used bytes before it than there are.
  used-before : (x : ℕ) → x < 256 → used rs x ≡ true → how_many_of x (used rs) < used_bytes
  unfolding used_bytes
  used-before x h e = counted_before x 256 (used rs) e h

  -- For each number below theirs there is a used byte behind so many others.
  used_at : (c : ℕ) → c < used_bytes → (x : ℕ) × (x < 256) × (used rs x ≡ true) × (how_many_of x (used rs) ≡ c)
  unfolding used_bytes
  used_at c h = counted_at 256 c (used rs) h

  -- Used bytes and the kept class are at most 256: the class is kept only where some byte is not used.
  used_and_spare : spare rs + used_bytes ≤ 256
  unfolding spare used_bytes
  used_and_spare = go (any 256 (λ x. not (used rs x))) refl
    where
      go : (b : Bool) → any 256 (λ x. not (used rs x)) ≡ b → bit b + how_many_of 256 (used rs) ≤ 256
      go true q = let (x, hx, e) = any_some 256 (λ x. not (used rs x)) q in with_one 256 (used rs) (count-found 256 x (λ x. not (used rs x)) hx e)
      go false q = with_none 256 (used rs)

  -- There are at most 256 classes.
  pub classes_most : classes rs ≤ 256
  classes_most = omega (arith, classes_are, used_and_spare)

  -- Every class is below k.
  pub class_below : (x : ℕ) → x < 256 → class_of rs x < classes rs
  class_below x h = go (used rs x) refl
    where
      go : (b : Bool) → used rs x ≡ b → class_of rs x < classes rs
      go true e = omega (arith, class_used x e, classes_are, used-before x h e)
      go false e = omega (arith, class_unused x e, classes_are, spare_one x h e)

  -- Every class below k has a byte.
  pub class_met : (c : ℕ) → c < classes rs → (x : ℕ) × (x < 256) × (class_of rs x ≡ c)
  class_met c h = go (dec_lt c (spare rs))
    where
      go : Dec (c < spare rs) → (x : ℕ) × (x < 256) × (class_of rs x ≡ c)
      go (yes l) = let (x, hx, e) = spare_some (omega arith) in (x, hx, omega (arith, class_unused x e, spare_le))
      go (no l) =
          let (x, hx, e, m) = used_at (c - spare rs) (omega (arith, classes_are)) in
          (x, hx, omega (arith, class_used x e))

  -- Two bytes of one class are one byte, or neither is in any string.
  pub class_decides : (x y : ℕ) → x < 256 → y < 256 → class_of rs x ≡ class_of rs y → (x ≡ y) ⊎ ((used rs x ≡ false) × (used rs y ≡ false))
  class_decides x y hx hy e = go (used rs x) refl (used rs y) refl
    where
      one : used rs x ≡ true → used rs y ≡ true → class_of rs x ≡ class_of rs y → Dec (x < y) → Dec (y < x) → x ≡ y
      one p q w (yes l) d = absurd (omega (arith, class_used x p, class_used y q, counted_before x y (used rs) p l))
      one p q w (no l) (yes k) = absurd (omega (arith, class_used x p, class_used y q, counted_before y x (used rs) q k))
      one p q w (no l) (no k) = omega arith

      go : (a : Bool) → used rs x ≡ a → (b : Bool) → used rs y ≡ b → (x ≡ y) ⊎ ((used rs x ≡ false) × (used rs y ≡ false))
      go true p true q = inl (one p q e (dec_lt x y) (dec_lt y x))
      go true p false q = absurd (omega (arith, class_used x p, class_unused y q, spare_one y hy q))
      go false p true q = absurd (omega (arith, class_unused x p, class_used y q, spare_one x hx p))
      go false p false q = inr (p, q)
