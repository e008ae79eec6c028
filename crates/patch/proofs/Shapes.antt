-- Ground 22 as the code tests it, number by number, and what it leaves.
use mathlib.Core.Path.{◌≡◌, refl, sym, ap, ◌∙◌}
use mathlib.Core.Bool.{Bool, true, false, ◌||◌, true≢false}
use mathlib.Core.Logic.{◌⊎◌}
use mathlib.Core.List.{List}
use Prim.Native.Nat.{ℕ, ◌-◌, ◌+◌, ◌*◌, ◌≤◌, ◌<◌}
use native.Mathlib.Omega.{arith}
use lib.ListN.{length, take}
use borrow.Author.Tests.{lt-ltb, le-ltb}
use Rattle.paper.specs.Below.{differ, outside}
use Rattle.paper.specs.Words.{Bytes, words, check_word_of}
use Rattle.paper.specs.Patch.{listed_states, entries, distance_back, whole_length, check, patch_length, shape_bad_of}
use Rattle.paper.proofs.Words.{number32_below}
use Rattle.paper.proofs.Tests.{holds_out_of, holds_differ, within_outside, same_differ}
use Rattle.facts.proofs.PatchFacts.{shaped_patch}
use Rattle.table.proofs.Either.{or_first, or_second}
use Rattle.patch.specs.Shaped.{Shaped}

-- One of the first two of three tests passes.
or_early : (a b c : Bool) → a || b ≡ true → true ≡ a || (b || c)
or_early true b c e = refl
or_early false true c e = refl
or_early false false c e = absurd (true≢false (sym e))

-- Neither does: the third decides.
or_last : (a b c r : Bool) → a || b ≡ false → r ≡ c → r ≡ a || (b || c)
or_last true b c r e q = absurd (true≢false e)
or_last false true c r e q = absurd (true≢false e)
or_last false false c r e q = q

module _ (x : List ℕ) where
  -- A patch under 22 bytes.
  pub shape_short : length x < 22 → true ≡ shape_bad_of x
  unfolding shape_bad_of
  shape_short h = or_first _ _ (lt-ltb (length x) 22 h)

  module _ (long : 22 ≤ length x) (p : ℕ) (p_is : p ≡ listed_states x) where
    -- One whose p is out of range.
    pub shape_listed : (p < 1) ⊎ (64 < p) → true ≡ shape_bad_of x
    unfolding shape_bad_of
    shape_listed h = or_second _ _ true (le-ltb (length x) 22 long) (or_first (outside 1 64 (listed_states x)) _ (ap (outside 1 64) (sym p_is) ∙ (holds_out_of 1 64 p).1 h))

    module _ (some_p : 1 ≤ p) (few_p : p ≤ 64) (q : ℕ) (q_is : q ≡ entries x) where
      -- What is left where p is in range.
      left : (r : Bool)
          → r ≡ differ (length x) (patch_length p q) || (differ (whole_length x) (length x) || (differ (distance_back x) (4 * q + 12) || differ (check x) (check_word_of (words (take (length x - 2) x)))))
          → r ≡ shape_bad_of x
      unfolding shape_bad_of
      left r e =
          or_second _ _ r (le-ltb (length x) 22 long)
          (or_second _ _ r (within_outside 1 64 (listed_states x) (omega (arith, p_is, some_p)) (omega (arith, p_is, few_p))) (rw (← p_is, ← q_is) e))

      -- Another length than p and q give.
      pub shape_length : ¬ (length x ≡ patch_length p q) → true ≡ shape_bad_of x
      shape_length n = left true (or_first _ _ ((holds_differ (length x) (patch_length p q)).1 n))

      module _ (sized : length x ≡ patch_length p q) where
        -- A wrong trailer.
        pub shape_trailer : differ (whole_length x) (length x) || differ (distance_back x) (4 * q + 12) ≡ true → true ≡ shape_bad_of x
        shape_trailer e = left true (or_second _ _ true (same_differ (length x) (patch_length p q) sized) (or_early (differ (whole_length x) (length x)) (differ (distance_back x) (4 * q + 12)) _ e))

        -- The check word decides.
        pub shape_check : differ (whole_length x) (length x) || differ (distance_back x) (4 * q + 12) ≡ false → (r : Bool)
            → r ≡ differ (check x) (check_word_of (words (take (length x - 2) x))) → r ≡ shape_bad_of x
        shape_check e r w = left r (or_second _ _ r (same_differ (length x) (patch_length p q) sized) (or_last (differ (whole_length x) (length x)) (differ (distance_back x) (4 * q + 12)) _ r e w))

-- Where ground 22 does not apply the patch is shaped.
pub shaped : (x : List ℕ) → Bytes x → shape_bad_of x ≡ false → (p q : ℕ) → p ≡ listed_states x → q ≡ entries x → Shaped x p q
shaped x B e p q p_is q_is =
    let S = shaped_patch x e in
    record {
      listed_are = p_is;
      entries_are = q_is;
      some = omega (arith, S.some_listed);
      few = omega (arith, S.few_listed);
      long = rw (p_is, q_is) S.long;
      small = omega (arith, S.whole, number32_below x (length x - 8) B);
    }
