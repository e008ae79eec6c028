-- What stands at a place of a list of the values of the numbers below n.
use mathlib.Core.Path.{◌≡◌, refl, sym, ap, ◌∙◌}
use mathlib.Core.List.{[], ◌∷◌, ◌++◌}
use Prim.Native.Nat.{ℕ, zero, suc, ◌<◌}
use native.Mathlib.Nat.{not-suc-le-zero}
use native.Mathlib.Decide.{ℕ_discrete}
use native.Mathlib.Omega.{arith}
use lib.ListN.{length, get_or, length-append, get_or-append}
use lib.Seq.{get_or-append_seam}
use Rattle.paper.specs.Below.{list}

module _ {A : Type 0} where
  -- The list has n places.
  pub list_length : (n : ℕ) (f : ℕ → A) → length (list n f) ≡ n
  list_length zero f = refl
  list_length (suc n) f = length-append (list n f) (f n ∷ []) ∙ omega (arith, list_length n f)

  -- At each of them stands the value of its number.
  pub list_at : (n i : ℕ) (f : ℕ → A) (a : A) → i < n → get_or (list n f) i a ≡ f i
  list_at zero i f a h = absurd (not-suc-le-zero h)
  list_at (suc n) i f a h = go (ℕ_discrete i n) (list_at n i f a)
    where
      go : Dec (i ≡ n) → (i < n → get_or (list n f) i a ≡ f i) → get_or (list n f ++ (f n ∷ [])) i a ≡ f i
      go (yes q) ih =
          let e : i ≡ length (list n f) = q ∙ sym (list_length n f) in
          ap (λ (j : ℕ). get_or (list n f ++ (f n ∷ [])) j a) e ∙ get_or-append_seam (list n f) (f n) [] a ∙ ap f (sym q)
      go (no q) ih = get_or-append (list n f) (f n ∷ []) a i (omega (arith, list_length n f)) ∙ ih (omega arith)
