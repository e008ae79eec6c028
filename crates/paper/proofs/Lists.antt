-- Lists over the numbers below n: how long they are, what stands in them, and a list as such a list.
use mathlib.Core.Path.{◌≡◌, refl, sym, ap, ◌∙◌}
use mathlib.Core.List.{List, [], ◌∷◌, ◌++◌, append_assoc, append-nil}
use Prim.Native.Nat.{ℕ, zero, suc, ◌<◌}
use native.Mathlib.Nat.{not-suc-le-zero}
use native.Mathlib.Decide.{ℕ_discrete}
use native.Mathlib.Omega.{arith}
use lib.ListN.{length, get_or, length-append, get_or-append}
use lib.Seq.{get_or_at, ext_get_or}
use Rattle.paper.specs.Below.{each, list}
use Rattle.paper.specs.Words.{bytes16, all16}

module _ {A : Type 0} where
  -- The list has n elements.
  pub length-list : (n : ℕ) (f : ℕ → A) → length (list n f) ≡ n
  length-list zero f = refl
  length-list (suc n) f = omega (arith, length-append (list n f) (f n ∷ []), length-list n f)

  -- Each of them is f of its place.
  pub get_or-list : (n i : ℕ) (f : ℕ → A) (d : A) → i < n → get_or (list n f) i d ≡ f i
  get_or-list zero i f d h = absurd (not-suc-le-zero h)
  get_or-list (suc n) i f d h = go (ℕ_discrete i n) (get_or-list n i f d)
    where
      go : Dec (i ≡ n) → (i < n → get_or (list n f) i d ≡ f i) → get_or (list n f ++ (f n ∷ [])) i d ≡ f i
      go (yes e) ih = rw e (get_or_at (list n f) (f n) [] d n (length-list n f))
      go (no e) ih =
          let l : i < length (list n f) = omega (arith, length-list n f) in
          get_or-append (list n f) (f n ∷ []) d i l ∙ ih (omega arith)

  -- A list is the list of its elements.
  pub list-get_or : (l : List A) (d : A) → list (length l) (λ j. get_or l j d) ≡ l
  list-get_or l d =
      let n = length-list (length l) (λ j. get_or l j d) in
      ext_get_or d (list (length l) (λ j. get_or l j d)) l n (λ i h. get_or-list (length l) i (λ j. get_or l j d) d (omega arith))

  -- The first of the lists apart.
  pub each_first : (n : ℕ) (f : ℕ → List A) → each (suc n) f ≡ f 0 ++ each n (λ i. f (suc i))
  each_first zero f = sym (append-nil (f 0))
  each_first (suc n) f = ap (λ (l : List A). l ++ f (suc n)) (each_first n f) ∙ append_assoc (f 0) (each n (λ i. f (suc i))) (f (suc n))

-- Numbers as 2 bytes each are the 2 bytes of each.
pub all16-each : (ls : List ℕ) → all16 ls ≡ each (length ls) (λ j. bytes16 (get_or ls j 0))
all16-each [] = refl
all16-each (x ∷ ls) = ap (λ (l : List ℕ). bytes16 x ++ l) (all16-each ls) ∙ sym (each_first (length ls) (λ j. bytes16 (get_or (x ∷ ls) j 0)))
