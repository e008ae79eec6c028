-- Failure links: from a string to its longest proper ending that is in the list, and how rows follow from the rows of shorter strings.
use mathlib.Core.Path.{◌≡◌, refl, ap}
use mathlib.Core.Bool.{true, false}
use mathlib.Core.List.{List, [], ◌∷◌, ◌++◌}
use Prim.Native.Nat.{ℕ, ◌≤◌, ◌<◌}
use native.Mathlib.Nat.{not-suc-le-zero}
use native.Mathlib.Omega.{arith}
use lib.ListN.{length}
use Rattle.paper.specs.Strings.{among, longest_ending_of}
use Rattle.paper.specs.Endings.{EndingOf}
use Rattle.strings.proofs.Same.{ne_same}
use Rattle.strings.proofs.Endings.{Closed, next, longest-next}
use Rattle.strings.proofs.Longest.{ending_le, ending_more, ending_behind, longest_ending, longest-among, longest_most, longest_name}

module _ (ws : List (List ℕ)) where
  -- The failure link of a string: its longest ending without the first byte that is in the list.
  abbrev pub fail : List ℕ → List ℕ
  fail [] = []
  fail (x ∷ xs) = longest_ending_of ws xs

  -- It is an ending,
  pub fail_ending : (p : List ℕ) → EndingOf (fail p) p
  fail_ending [] = ([], refl)
  fail_ending (x ∷ xs) = ending_more x (longest_ending_of ws xs) xs (longest_ending ws xs)

  -- a proper one, so that filling rows by rising length is well founded,
  pub fail_shorter : (p : List ℕ) → 0 < length p → length (fail p) < length p
  fail_shorter [] h = h
  fail_shorter (x ∷ xs) h = omega (arith, ending_le (longest_ending_of ws xs) xs (longest_ending ws xs))

  -- in the list,
  pub fail_among : among [] ws ≡ true → (p : List ℕ) → among (fail p) ws ≡ true
  fail_among n [] = n
  fail_among n (x ∷ xs) = longest-among ws n xs

  -- and no shorter than any other such.
  pub fail_most : (v p : List ℕ) → EndingOf v p → length v < length p → among v ws ≡ true → length v ≤ length (fail p)
  fail_most v [] n l a = absurd (not-suc-le-zero l)
  fail_most v (x ∷ xs) (u, e) l a =
      longest_most ws v xs (ending_behind v x xs u e (ne_same v (x ∷ xs) (λ q. absurd (omega (arith, ap length q))))) a

  -- Where a string and a byte are in the list, that is where the byte leads.
  pub next_there : (p : List ℕ) (a : ℕ) → among (p ++ (a ∷ [])) ws ≡ true → next ws p a ≡ p ++ (a ∷ [])
  next_there p a e = longest_name ws (p ++ (a ∷ [])) e

  -- Where the empty string and a byte are not, the byte leads to the empty string.
  pub next-stays : (a : ℕ) → among (a ∷ []) ws ≡ false → next ws [] a ≡ []
  next-stays a e = rw e refl

  module _ (shorter : Closed ws) where
    -- The failure link of a longer string is where the last byte leads from the failure link of the string before it.
    pub fail_next : (p : List ℕ) (a : ℕ) → 0 < length p → fail (p ++ (a ∷ [])) ≡ next ws (fail p) a
    fail_next [] a h = absurd (not-suc-le-zero h)
    fail_next (x ∷ xs) a h = longest-next ws shorter xs a

    -- Where a string and a byte are not in the list, the byte leads where it leads from the failure link.
    pub next-falls : (p : List ℕ) (a : ℕ) → 0 < length p → among (p ++ (a ∷ [])) ws ≡ false → next ws p a ≡ next ws (fail p) a
    next-falls [] a h e = absurd (not-suc-le-zero h)
    next-falls (x ∷ xs) a h e = rw e (longest-next ws shorter xs a)
