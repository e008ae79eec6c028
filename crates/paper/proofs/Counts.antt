-- How many numbers below n pass a test, and what follows: one of them picked, at most one, the pigeonhole.
use mathlib.Core.Path.{◌≡◌, refl, sym, ap, ap₂, ◌∙◌}
use mathlib.Core.Bool.{Bool, true, false, cond, not}
use mathlib.Core.List.{[], ◌∷◌}
use Prim.Native.Nat.{ℕ, zero, suc, ◌+◌, ◌≤◌, ◌<◌, zero-le}
use native.Mathlib.Nat.{not-suc-le-zero}
use native.Mathlib.Decide.{ℕ_discrete, dec_le}
use native.Mathlib.Omega.{arith}
use lib.Dec.{eqb}
use lib.ListN.{length, length-append}
use borrow.Author.Tests.{eq-eqb, ne_eqb, eqb-true}
use Rattle.paper.specs.Below.{sum, bit, how_many_of, any, each}
use Rattle.paper.proofs.Below.{any_some, any_at}
use Rattle.paper.proofs.Sums.{sum_same, sum_le, sum_add, sum_zero, sum_constant, sum_swap, term_le}

-- A test counts at most 1.
pub bit_le : (b : Bool) → bit b ≤ 1
bit_le true = omega arith
bit_le false = omega arith

-- What passes and what does not are all.
pub count_both : (n : ℕ) (p : ℕ → Bool) → how_many_of n p + how_many_of n (λ i. not (p i)) ≡ n
count_both zero p = refl
count_both (suc n) p = omega (arith, count_both n p, one (p n))
  where
    one : (b : Bool) → bit b + bit (not b) ≡ 1
    one true = refl
    one false = refl

-- A count depends on what passes only.
pub count_same : (n : ℕ) (p q : ℕ → Bool) → ((i : ℕ) → i < n → p i ≡ q i) → how_many_of n p ≡ how_many_of n q
count_same n p q h = sum_same n (λ i. bit (p i)) (λ i. bit (q i)) (λ i hi. ap bit (h i hi))

-- At most all are counted.
pub count_le : (n : ℕ) (p : ℕ → Bool) → how_many_of n p ≤ n
count_le n p = omega (arith, count_both n p)

-- All are, where all pass.
pub count_all : (n : ℕ) (p : ℕ → Bool) → ((i : ℕ) → i < n → p i ≡ true) → how_many_of n p ≡ n
count_all zero p h = refl
count_all (suc n) p h = omega (arith, count_all n p (λ i hi. h i (omega arith)), ap bit (h n (omega arith)))

-- None is, where none passes.
pub count_none : (n : ℕ) → how_many_of n (λ i. false) ≡ 0
count_none n = sum_zero n (λ i. 0) (λ i l. refl)

-- One that passes is counted.
pub count-found : (n i : ℕ) (p : ℕ → Bool) → i < n → p i ≡ true → 1 ≤ how_many_of n p
count-found n i p h e = omega (arith, term_le n i (λ j. bit (p j)) h, ap bit e)

-- Two tests that at each number pass no more often than a third pass no more often in all.
pub count_two : (n : ℕ) (p q r : ℕ → Bool) → ((i : ℕ) → i < n → bit (p i) + bit (q i) ≤ bit (r i)) → how_many_of n p + how_many_of n q ≤ how_many_of n r
count_two n p q r h = omega (arith, sum_add n (λ i. bit (p i)) (λ i. bit (q i)), sum_le n (λ i. bit (p i) + bit (q i)) (λ i. bit (r i)) h)

-- Where all are counted, each passes.
pub all_counted : (n i : ℕ) (p : ℕ → Bool) → how_many_of n p ≡ n → i < n → p i ≡ true
all_counted n i p e h = go (p i) refl
  where
    go : (b : Bool) → p i ≡ b → p i ≡ true
    go true q = q
    go false q = absurd (omega (arith, count_both n p, term_le n i (λ j. bit (not (p j))) h, ap (λ b. bit (not b)) q))

-- One number is counted once.
pub pick_one : (n a : ℕ) → a < n → how_many_of n (λ i. eqb a i) ≡ 1
pick_one zero a l = absurd (not-suc-le-zero l)
pick_one (suc n) a l = go (ℕ_discrete a n) (pick_one n a)
  where
    go : Dec (a ≡ n) → (a < n → how_many_of n (λ i. eqb a i) ≡ 1) → how_many_of n (λ i. eqb a i) + bit (eqb a n) ≡ 1
    go (yes e) ih = omega (arith, ap bit (eq-eqb a n e), sum_zero n (λ i. bit (eqb a i)) (λ i k. ap bit (ne_eqb a i (λ q. omega arith))))
    go (no e) ih = omega (arith, ap bit (ne_eqb a n e), ih (omega arith))

-- A value that one number alone has is the sum.
pub pick_value : (n a m : ℕ) → a < n → sum n (λ i. cond (eqb a i) m 0) ≡ m
pick_value zero a m l = absurd (not-suc-le-zero l)
pick_value (suc n) a m l = go (ℕ_discrete a n) (pick_value n a m)
  where
    go : Dec (a ≡ n) → (a < n → sum n (λ i. cond (eqb a i) m 0) ≡ m) → sum n (λ i. cond (eqb a i) m 0) + cond (eqb a n) m 0 ≡ m
    go (yes e) ih =
        omega (
          arith,
          ap (λ (b : Bool). cond b m 0) (eq-eqb a n e),
          sum_zero n (λ i. cond (eqb a i) m 0) (λ i k. ap (λ (b : Bool). cond b m 0) (ne_eqb a i (λ q. omega arith))),
        )
    go (no e) ih = omega (arith, ap (λ (b : Bool). cond b m 0) (ne_eqb a n e), ih (omega arith))

-- A list with one place for each number that passes is as long as there are such numbers.
pub length_passed : {A : Type 0} (n : ℕ) (p : ℕ → Bool) (f : ℕ → A) → length (each n (λ i. cond (p i) (f i ∷ []) [])) ≡ how_many_of n p
length_passed zero p f = refl
length_passed (suc n) p f = length-append (each n (λ i. cond (p i) (f i ∷ []) [])) (cond (p n) (f n ∷ []) []) ∙ ap₂ ◌+◌ (length_passed n p f) (go (p n))
  where
    go : (b : Bool) → length (cond b (f n ∷ []) []) ≡ bit b
    go true = refl
    go false = refl

-- Where any two that pass are one, at most one is counted.
pub at_most_one : (n : ℕ) (p : ℕ → Bool) → ((i j : ℕ) → i < n → j < n → p i ≡ true → p j ≡ true → i ≡ j) → how_many_of n p ≤ 1
at_most_one zero p u = zero-le
at_most_one (suc n) p u = go (p n) refl (at_most_one n p (λ i j hi hj. u i j (omega arith) (omega arith)))
  where
    other : p n ≡ true → (i : ℕ) → i < n → bit (p i) ≡ 0
    other q i h = at (p i) refl
      where
        at : (b : Bool) → p i ≡ b → bit (p i) ≡ 0
        at true w = let z : i ≡ n = u i n (omega arith) (omega arith) w q in absurd (omega arith)
        at false w = ap bit w

    go : (b : Bool) → p n ≡ b → how_many_of n p ≤ 1 → how_many_of n p + bit (p n) ≤ 1
    go true q ih = omega (arith, sum_zero n (λ i. bit (p i)) (other q), bit_le (p n))
    go false q ih = omega (arith, ap bit q)

-- A map of the numbers below n to numbers below m that takes no value twice: n is at most m.
pub pigeonhole : (n m : ℕ) (f : ℕ → ℕ) → ((i : ℕ) → i < n → f i < m) → ((i j : ℕ) → i < n → j < n → f i ≡ f j → i ≡ j) → n ≤ m
pigeonhole n m f into apart =
    let a : sum n (λ i. 1) ≡ sum n (λ i. how_many_of m (λ y. eqb (f i) y)) = sum_same n (λ i. 1) (λ i. how_many_of m (λ y. eqb (f i) y)) (λ i l. sym (pick_one m (f i) (into i l))) in
    let b : sum m (λ y. how_many_of n (λ i. eqb (f i) y)) ≤ sum m (λ y. 1) =
    sum_le m (λ y. how_many_of n (λ i. eqb (f i) y)) (λ y. 1)
    (λ y l. at_most_one n (λ i. eqb (f i) y) (λ i j hi hj p q. apart i j hi hj (eqb-true (f i) y p ∙ sym (eqb-true (f j) y q)))) in
    omega (arith, a, b, sum_swap n m (λ i y. bit (eqb (f i) y)), sum_constant n 1, sum_constant m 1)

-- Two of the numbers below n have one value.
abbrev pub Twice : ℕ → (ℕ → ℕ) → Type 0
Twice n f = (i : ℕ) × (j : ℕ) × (i < j) × (j < n) × (f i ≡ f j)

-- Of more numbers than there are values two have one value.
pub collision : (n m : ℕ) (f : ℕ → ℕ) → m < n → ((i : ℕ) → i < n → f i < m) → Twice n f
collision n m f more into = go (any n again) refl
  where
    again : ℕ → Bool
    again j = any j (λ i. eqb (f i) (f j))

    differ_all : any n again ≡ false → (i j : ℕ) → i < j → j < n → f i ≡ f j → ⊥
    differ_all e i j h hj q =
        let w : eqb (f i) (f j) ≡ false = any_at j i (λ i. eqb (f i) (f j)) (any_at n j again e hj) h in
        let z : true ≡ false = sym (eq-eqb (f i) (f j) q) ∙ w in
        let o : ◌≡◌ {A = ℕ} 1 0 = ap bit z in absurd (omega arith)

    apart : any n again ≡ false → (i j : ℕ) → i < n → j < n → f i ≡ f j → i ≡ j
    apart e i j hi hj q = at (ℕ_discrete i j) (dec_le i j)
      where
        at : Dec (i ≡ j) → Dec (i ≤ j) → i ≡ j
        at (yes w) d = w
        at (no w) (yes l) = absurd (differ_all e i j (omega arith) hj q)
        at (no w) (no l) = absurd (differ_all e j i (omega arith) hi (sym q))

    go : (b : Bool) → any n again ≡ b → Twice n f
    go true e =
        let (j, hj, q) = any_some n again e in
        let (i, h, w) = any_some j (λ i. eqb (f i) (f j)) q in
        (i, j, h, hj, eqb-true (f i) (f j) w)
    go false e = absurd (omega (arith, pigeonhole n m f into (apart e)))
