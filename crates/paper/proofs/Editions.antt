-- The two editions, and the first word of a front: it gives the edition and n, and the edition and n give it.
use mathlib.Core.Path.{◌≡◌, refl, sym, ap, ap₂, ◌∙◌}
use mathlib.Core.Bool.{Bool, true, false, cond, not, true≢false}
use Prim.Native.Nat.{ℕ, ◌+◌, ◌%◌, ◌≤◌, ◌<◌}
use native.Mathlib.Omega.{arith}
use lib.Dec.{ltb}
use borrow.Author.Tests.{lt-ltb, le-ltb, ltb-true, ltb-false}
use Rattle.paper.specs.Labels.{Edition, one, two, edition_of, is_two, states_in_word, first_word}
use Rattle.paper.proofs.Tests.{Holds}

-- The editions are two.
pub one≢two : one ≡ two → ⊥
one≢two e = true≢false (sym (ap is_two e))

-- An edition that is not 1.
pub holds_not_one : (e : Edition) → Holds (is_two e) (¬ (e ≡ one))
holds_not_one one = (λ q. absurd (true≢false (sym q)), λ n. absurd (n refl))
holds_not_one two = (λ q w. one≢two (sym w), λ n. refl)

-- An edition that is not 2.
pub holds_not_two : (e : Edition) → Holds (not (is_two e)) (¬ (e ≡ two))
holds_not_two one = (λ q. one≢two, λ n. refl)
holds_not_two two = (λ q. absurd (true≢false (sym q)), λ n. absurd (n refl))

-- Where the one test fails the edition is 1, where the other fails it is 2.
pub not_two_one : (e : Edition) → is_two e ≡ false → e ≡ one
not_two_one one q = refl
not_two_one two q = absurd (true≢false q)

pub not_one_two : (e : Edition) → not (is_two e) ≡ false → e ≡ two
not_one_two one q = absurd (true≢false q)
not_one_two two q = refl

-- A word below 32768 is of edition 1.
pub first_edition : (w : ℕ) → w < 32768 → edition_of w ≡ one
first_edition w h = rw (lt-ltb w 32768 h)

-- Any other word is of edition 2.
pub second_edition : (w : ℕ) → 32768 ≤ w → edition_of w ≡ two
second_edition w h = rw (le-ltb w 32768 h)

-- Edition 2 is that of no word below 32768.
pub second_large : (w : ℕ) → edition_of w ≡ two → 32768 ≤ w
second_large w e = go (ltb w 32768) refl e
  where
    go : (t : Bool) → ltb w 32768 ≡ t → cond t one two ≡ two → 32768 ≤ w
    go true q e = absurd (one≢two e)
    go false q e = ltb-false w 32768 q

-- The edition is read of the word.
pub edition_read : (e : Edition) (n : ℕ) → n < 32768 → edition_of (first_word e n) ≡ e
edition_read one n h = first_edition n h
edition_read two n h = second_edition (32768 + n) (omega arith)

-- So is n.
pub states_read : (e : Edition) (n : ℕ) → n < 32768 → states_in_word (first_word e n) ≡ n
states_read one n h = omega arith
states_read two n h = omega arith

-- The word has 16 bits.
pub word_small : (e : Edition) (n : ℕ) → n < 32768 → first_word e n < 65536
word_small one n h = omega arith
word_small two n h = omega arith

-- A word of 16 bits is the one that its edition and its n give.
pub word_back : (w : ℕ) (e : Edition) (n : ℕ) → w < 65536 → edition_of w ≡ e → states_in_word w ≡ n → w ≡ first_word e n
word_back w e n h q r = go (ltb w 32768) refl ∙ ap₂ first_word q r
  where
    go : (t : Bool) → ltb w 32768 ≡ t → w ≡ first_word (cond t one two) (w % 32768)
    go true e = omega (arith, ltb-true w 32768 e)
    go false e = omega (arith, ltb-false w 32768 e)
