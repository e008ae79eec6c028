-- The list of the numbers below k that pass a test, each with a value: what stands in it, and that it rises.
use mathlib.Core.Path.{◌≡◌, refl, sym, ap, ◌∙◌}
use mathlib.Core.Bool.{Bool, true, false, cond, true≢false}
use mathlib.Core.List.{List, [], ◌∷◌, ◌++◌, append-nil}
use Prim.Native.Nat.{ℕ, zero, suc, ◌<◌}
use native.Mathlib.Nat.{not-suc-le-zero}
use native.Mathlib.Decide.{ℕ_discrete, dec_lt}
use native.Mathlib.Omega.{arith}
use lib.ListN.{length, get_or, length-append, get_or-append}
use lib.Seq.{get_or_at}
use Rattle.paper.specs.Below.{each}
use Rattle.paper.proofs.Rising.{Rises}

-- What stands at a place of a list of pairs.
abbrev pub pair_at : List (ℕ × ℕ) → ℕ → ℕ × ℕ
pair_at l j = get_or l j (0, 0)

module _ (p : ℕ → Bool) (g : ℕ → ℕ) where
  -- The list holds the numbers below k that pass, rising, each with its value.
  pub record Picked (k : ℕ) (l : List (ℕ × ℕ)) : Type 0 where
    pub each_is : (j : ℕ) → j < length l → ((pair_at l j).0 < k) × (p (pair_at l j).0 ≡ true) × ((pair_at l j).1 ≡ g (pair_at l j).0)
    pub all : (c : ℕ) → c < k → p c ≡ true → (j : ℕ) × (j < length l) × ((pair_at l j).0 ≡ c)
    pub rises : Rises (λ j. (pair_at l j).0) (length l)

  -- A number that does not pass is left out.
  left_out : (k : ℕ) (l : List (ℕ × ℕ)) → p k ≡ false → Picked k l → Picked (suc k) l
  left_out k l q P =
      record {
        each_is = λ j h. let (a, b, c) = P.each_is j h in (omega arith, b, c);
        all = λ c h e. P.all c (go c h e (ℕ_discrete c k)) e;
        rises = P.rises;
      }
    where
      go : (c : ℕ) → c < suc k → p c ≡ true → Dec (c ≡ k) → c < k
      go c h e (yes w) = absurd (true≢false (sym e ∙ ap p w ∙ q))
      go c h e (no w) = omega arith

  -- A number that passes is put behind those before it.
  module _ (k : ℕ) (l : List (ℕ × ℕ)) (q : p k ≡ true) (P : Picked k l) where
    -- The list with the number k behind.
    abbrev longer : List (ℕ × ℕ)
    longer = l ++ ((k, g k) ∷ [])

    longer-length : length longer ≡ suc (length l)
    longer-length = length-append l ((k, g k) ∷ []) ∙ omega arith

    before : (j : ℕ) → j < length l → pair_at longer j ≡ pair_at l j
    before j h = get_or-append l ((k, g k) ∷ []) (0, 0) j h

    last : (j : ℕ) → ¬ (j < length l) → j < length longer → pair_at longer j ≡ (k, g k)
    last j h h' = get_or_at l (k, g k) [] (0, 0) j (omega (arith, longer-length))

    put_in : Picked (suc k) longer
    put_in = record { each_is = λ j h. is j h (dec_lt j (length l)); all = λ c h e. has c e h (ℕ_discrete c k); rises = λ j h. up j h (dec_lt (suc j) (length l)) }
      where
        is : (j : ℕ) → j < length longer → Dec (j < length l) → ((pair_at longer j).0 < suc k) × (p (pair_at longer j).0 ≡ true) × ((pair_at longer j).1 ≡ g (pair_at longer j).0)
        is j h (yes w) = let (a, b, c) = P.each_is j w in rw (before j w) (omega arith, b, c)
        is j h (no w) = rw (last j w h) (omega arith, q, refl)

        has : (c : ℕ) → p c ≡ true → c < suc k → Dec (c ≡ k) → (j : ℕ) × (j < length longer) × ((pair_at longer j).0 ≡ c)
        has c e h (yes w) = (length l, omega (arith, longer-length), ap (λ (x : ℕ × ℕ). x.0) (last (length l) (λ z. omega arith) (omega (arith, longer-length))) ∙ sym w)
        has c e h (no w) = let (j, hj, x) = P.all c (omega arith) e in (j, omega (arith, longer-length), ap (λ (x : ℕ × ℕ). x.0) (before j hj) ∙ x)

        up : (j : ℕ) → suc j < length longer → Dec (suc j < length l) → (pair_at longer j).0 < (pair_at longer (suc j)).0
        up j h (yes w) = rw (before j (omega arith), before (suc j) w) (P.rises j w)
        up j h (no w) = let hj : j < length l = omega (arith, longer-length) in rw (before j hj, last (suc j) w h) (P.each_is j hj).0

  -- So the list made number by number holds them.
  pub picked : (k : ℕ) → Picked k (each k (λ c. cond (p c) ((c, g c) ∷ []) []))
  picked zero = record { each_is = λ j h. absurd (not-suc-le-zero h); all = λ c h e. absurd (not-suc-le-zero h); rises = λ j h. absurd (not-suc-le-zero h) }
  picked (suc k) = go (p k) refl (each k (λ c. cond (p c) ((c, g c) ∷ []) [])) (picked k)
    where
      go : (b : Bool) → p k ≡ b → (l : List (ℕ × ℕ)) → Picked k l → Picked (suc k) (l ++ cond b ((k, g k) ∷ []) [])
      go true q l P = put_in k l q P
      go false q l P = rw (append-nil l) (left_out k l q P)
