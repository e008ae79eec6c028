-- The longest ending that is in a list is what its name says: an ending, in the list, and no shorter than any other such.
use mathlib.Core.Path.{◌≡◌, refl, sym, ap, ◌∙◌}
use mathlib.Core.Bool.{Bool, true, false, cond, ◌||◌, or-true, true≢false}
use mathlib.Core.List.{List, [], ◌∷◌, ◌++◌}
use Prim.Native.Nat.{ℕ, ◌≤◌}
use native.Mathlib.Omega.{arith}
use lib.ListN.{length, length-append}
use Rattle.paper.specs.Below.{same}
use Rattle.paper.specs.Strings.{among, longest_ending_of, ends}
use Rattle.paper.specs.Endings.{EndingOf}
use Rattle.strings.proofs.Same.{same_refl, same_eq, eq_same}

-- An ending is not longer than the string.
pub ending_le : (v w : List ℕ) → EndingOf v w → length v ≤ length w
ending_le v w (u, e) = omega (arith, ap length e, length-append u v)

-- One byte more in front keeps an ending.
pub ending_more : (x : ℕ) (v w : List ℕ) → EndingOf v w → EndingOf v (x ∷ w)
ending_more x v w (u, e) = (x ∷ u, ap (λ (l : List ℕ). x ∷ l) e)

-- What the string behind the first byte is.
abbrev rest : List ℕ → List ℕ
rest [] = []
rest (x ∷ xs) = xs

-- An ending that is not the whole string is an ending without the first byte.
pub ending_behind : (v : List ℕ) (x : ℕ) (xs u : List ℕ) → x ∷ xs ≡ u ++ v → same v (x ∷ xs) ≡ false → EndingOf v xs
ending_behind v x xs [] e f = absurd (true≢false (sym (eq_same v (x ∷ xs) (sym e)) ∙ f))
ending_behind v x xs (y ∷ u) e f = (u, ap rest e)

-- The test of endings says what it should.
pub ends_ending : (v w : List ℕ) → ends v w ≡ true → EndingOf v w
ends_ending v [] e = ([], sym (same_eq v [] e))
ends_ending v (x ∷ xs) e = go (same v (x ∷ xs)) refl e (ends_ending v xs)
  where
    go : (b : Bool) → same v (x ∷ xs) ≡ b → b || ends v xs ≡ true → (ends v xs ≡ true → EndingOf v xs) → EndingOf v (x ∷ xs)
    go true q e ih = ([], sym (same_eq v (x ∷ xs) q))
    go false q e ih = ending_more x v xs (ih e)

-- A string is its own ending.
ends_self : (v : List ℕ) → ends v v ≡ true
ends_self [] = refl
ends_self (x ∷ xs) = rw (same_refl (x ∷ xs)) refl

-- A string ends itself behind any other.
ends-append : (u v : List ℕ) → ends v (u ++ v) ≡ true
ends-append [] v = ends_self v
ends-append (x ∷ u) v = ap (λ (b : Bool). same v (x ∷ (u ++ v)) || b) (ends-append u v) ∙ or-true (same v (x ∷ (u ++ v)))

-- And the other way.
pub ending_ends : (v w : List ℕ) → EndingOf v w → ends v w ≡ true
ending_ends v w (u, e) = ap (ends v) e ∙ ends-append u v

module _ (ws : List (List ℕ)) where
  -- It is an ending.
  pub longest_ending : (w : List ℕ) → EndingOf (longest_ending_of ws w) w
  longest_ending [] = ([], refl)
  longest_ending (x ∷ xs) = go (among (x ∷ xs) ws) (longest_ending xs)
    where
      go : (b : Bool) → EndingOf (longest_ending_of ws xs) xs → EndingOf (cond b (x ∷ xs) (longest_ending_of ws xs)) (x ∷ xs)
      go true ih = ([], refl)
      go false ih = ending_more x (longest_ending_of ws xs) xs ih

  -- It is in the list, where the empty string is.
  pub longest-among : among [] ws ≡ true → (w : List ℕ) → among (longest_ending_of ws w) ws ≡ true
  longest-among n [] = n
  longest-among n (x ∷ xs) = go (among (x ∷ xs) ws) refl (longest-among n xs)
    where
      go : (b : Bool) → among (x ∷ xs) ws ≡ b → among (longest_ending_of ws xs) ws ≡ true → among (cond b (x ∷ xs) (longest_ending_of ws xs)) ws ≡ true
      go true q ih = q
      go false q ih = ih

  -- No ending that is in the list is longer.
  pub longest_most : (v w : List ℕ) → EndingOf v w → among v ws ≡ true → length v ≤ length (longest_ending_of ws w)
  longest_most v [] n a = ending_le v [] n
  longest_most v (x ∷ xs) n a = go (among (x ∷ xs) ws) refl (same v (x ∷ xs)) refl (longest_most v xs)
    where
      go : (b : Bool) → among (x ∷ xs) ws ≡ b → (s : Bool) → same v (x ∷ xs) ≡ s
          → (EndingOf v xs → among v ws ≡ true → length v ≤ length (longest_ending_of ws xs))
          → length v ≤ length (cond b (x ∷ xs) (longest_ending_of ws xs))
      go true q s p ih = ending_le v (x ∷ xs) n
      go false q true p ih = absurd (true≢false (sym a ∙ ap (λ (l : List ℕ). among l ws) (same_eq v (x ∷ xs) p) ∙ q))
      go false q false p ih = ih (ending_behind v x xs n.0 n.1 p) a

  -- A string of the list is its own longest ending.
  pub longest_name : (w : List ℕ) → among w ws ≡ true → longest_ending_of ws w ≡ w
  longest_name [] a = refl
  longest_name (x ∷ xs) a = rw a refl

  -- Where no string with a byte at its end is in the list, nothing but the empty string is left after that byte.
  pub longest_none : (a : ℕ) → ((p : List ℕ) → among (p ++ (a ∷ [])) ws ≡ false) → (p : List ℕ) → longest_ending_of ws (p ++ (a ∷ [])) ≡ []
  longest_none a h [] = rw (h []) refl
  longest_none a h (x ∷ xs) = rw (h (x ∷ xs)) (longest_none a h xs)
