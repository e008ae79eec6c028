-- A word list of the right shape: what no ground 26 says of it, and where its strings begin, as code holds it.
use mathlib.Core.Path.{◌≡◌, refl, ap, ◌∙◌}
use mathlib.Core.Bool.{Bool, true, false, ◌||◌, or-true}
use mathlib.Core.List.{List}
use Prim.Native.Nat.{ℕ, zero, suc, ◌+◌, ◌*◌, ◌≤◌, ◌<◌}
use native.Mathlib.Omega.{arith}
use lib.ListN.{length, get_or}
use borrow.Author.Tests.{ne_eqb}
use Rattle.paper.specs.Below.{any, differ, outside}
use Rattle.paper.specs.Strings.{count, size, string_at, list_bad_of}
use Rattle.paper.proofs.Below.{any_at, any_found}
use Rattle.paper.proofs.Tests.{or_both, not_outside, not_differ}
use Rattle.strings.proofs.Places.{place_next, place_le}

-- The counts and lengths are in their ranges, and the last string ends where the list does.
pub record Shaped (b : List ℕ) : Type 0 where
  pub some : 1 ≤ count b
  pub few : count b ≤ 64
  pub sizes : (i : ℕ) → i < count b → (1 ≤ size b i) × (size b i ≤ 32)
  pub ending : string_at b (count b) ≡ length b

-- Places of the n strings of a list of the right shape.
pub record Starts (b starts : List ℕ) (n : ℕ) : Type 0 where
  pub shape : Shaped b
  pub counted : n ≡ count b
  pub start_is : (i : ℕ) → i < n → get_or starts i 0 ≡ string_at b i

module _ (b : List ℕ) where
  -- Some length is out of range.
  abbrev pub size_bad : ℕ → Bool
  size_bad i = outside 1 32 (size b i)

  -- What no ground 26 says.
  pub shaped : list_bad_of b ≡ false → Shaped b
  unfolding list_bad_of
  shaped e =
      let (p, q) = or_both (outside 1 64 (count b)) (any (count b) size_bad || differ (string_at b (count b)) (length b)) e in
      let (r, s) = or_both (any (count b) size_bad) (differ (string_at b (count b)) (length b)) q in
      record {
        some = (not_outside 1 64 (count b) p).0;
        few = (not_outside 1 64 (count b) p).1;
        sizes = λ i h. not_outside 1 32 (size b i) (any_at (count b) i size_bad r h);
        ending = not_differ (string_at b (count b)) (length b) s;
      }

  -- A count out of range.
  pub shape_count : outside 1 64 (count b) ≡ true → list_bad_of b ≡ true
  unfolding list_bad_of
  shape_count e = rw e refl

  -- A length out of range.
  pub shape_size : (i : ℕ) → i < count b → size_bad i ≡ true → list_bad_of b ≡ true
  unfolding list_bad_of
  shape_size i h e = rw (any_found (count b) i size_bad h e) (or-true (outside 1 64 (count b)))

  -- An end that is not the list's.
  shape_differ : ¬ (string_at b (count b) ≡ length b) → list_bad_of b ≡ true
  unfolding list_bad_of
  shape_differ d =
      ap (λ (x : Bool). outside 1 64 (count b) || x)
      (ap (λ (x : Bool). any (count b) size_bad || x) (rw (ne_eqb (string_at b (count b)) (length b) d) refl) ∙ or-true (any (count b) size_bad))
      ∙ or-true (outside 1 64 (count b))

  -- A list that ends inside the label or the length of a string.
  pub shape_short : (i : ℕ) → i < count b → length b < string_at b i + 4 → list_bad_of b ≡ true
  shape_short i h l = shape_differ (λ e. absurd (omega (arith, place_le b (count b) i h)))

  -- No string begins before place 2.
  place_two : (n : ℕ) → 2 ≤ string_at b n
  place_two zero = omega arith
  place_two (suc n) = omega (arith, place_two n, place_next b n)

  -- A list that ends inside its count.
  pub shape_none : length b < 2 → list_bad_of b ≡ true
  shape_none l = shape_differ (λ e. absurd (omega (arith, place_two (count b))))

  -- With the count and all lengths in range the end decides.
  pub shape_end : outside 1 64 (count b) ≡ false → any (count b) size_bad ≡ false → differ (string_at b (count b)) (length b) ≡ list_bad_of b
  unfolding list_bad_of
  shape_end p q = rw (p, q) refl

  module _ (S : Shaped b) where
    -- A string stands inside the list.
    pub place_inside : (i : ℕ) → i < count b → string_at b i + (4 + size b i) ≤ length b
    place_inside i h = omega (arith, place_le b (count b) i h, S.ending)

    -- The strings before a string take at most 36 bytes each.
    pub place_most : (i : ℕ) → i ≤ count b → string_at b i ≤ 2 + 36 * i
    place_most zero h = omega arith
    place_most (suc i) h = omega (arith, place_most i (omega arith), place_next b i, (S.sizes i (omega arith)).1)
