-- A state's entries rise, so a cursor that goes on class by class finds what the state stores for each class.
use mathlib.Core.Path.{◌≡◌}
use mathlib.Core.Option.{Option, none, some}
use Prim.Native.Nat.{ℕ, ◌+◌, ◌≤◌, ◌<◌}
use native.Mathlib.Decide.{ℕ_discrete, dec_lt}
use native.Mathlib.Omega.{arith}
use lib.Dec.{eqb}
use borrow.Author.Tests.{eq-eqb, ne_eqb}
use Rattle.paper.specs.Below.{when}
use Rattle.paper.specs.View.{View, stored}
use Rattle.paper.proofs.Rising.{Rises, ahead}
use Rattle.paper.proofs.Below.{first_of_nowhere, first_of_at}
use Rattle.abreast.specs.Keeps.{Cursor}

module _ (v : View) (s : ℕ) where
  -- The target of an entry, where it is of the class.
  target_for : ℕ → ℕ → Option ℕ
  target_for c j = when (eqb (v.entry_class s j) c) (v.entry_next s j)

  -- A class that no entry has is not stored.
  pub stored_nowhere : (c : ℕ) → ((j : ℕ) → j < v.count s → ¬ (v.entry_class s j ≡ c)) → stored v s c ≡ none
  unfolding stored target_for
  stored_nowhere c h = first_of_nowhere (target_for c) (v.count s) (λ i l. rw (ne_eqb (v.entry_class s i) c (h i l)))

  module _ (up : Rises (v.entry_class s) (v.count s)) where
    -- An entry of the class is what the state stores for it.
    pub stored_entry : (c j : ℕ) → j < v.count s → v.entry_class s j ≡ c → stored v s c ≡ some (v.entry_next s j)
    unfolding stored target_for
    stored_entry c j h e =
        first_of_at (target_for c) (v.count s) j (v.entry_next s j) h
        (λ i l. rw (ne_eqb (v.entry_class s i) c (λ q. absurd (omega (arith, ahead (v.entry_class s) (v.count s) up i j l h)))))
        (rw (eq-eqb (v.entry_class s j) c e))

    -- The cursor at an entry of the class goes behind it.
    pub cursor_taken : (c j : ℕ) → Cursor v c s j → j < v.count s → v.entry_class s j ≡ c → Cursor v (c + 1) s (j + 1)
    cursor_taken c j C h e =
        record {
          within = omega arith;
          under = λ i l. before i l (ℕ_discrete i j);
          over = λ i l hi. omega (arith, ahead (v.entry_class s) (v.count s) up j i (omega arith) hi);
        }
      where
        before : (i : ℕ) → i < j + 1 → Dec (i ≡ j) → v.entry_class s i < c + 1
        before i l (yes w) = rw w (omega arith)
        before i l (no w) = omega (arith, C.under i (omega arith))

    module _ (c j : ℕ) (C : Cursor v c s j) (other : j < v.count s → ¬ (v.entry_class s j ≡ c)) where
      -- Where no entry of the class is at the cursor, those from it on have classes above.
      above : (i : ℕ) → j ≤ i → i < v.count s → c < v.entry_class s i
      above i l h = go (ℕ_discrete i j)
        where
          go : Dec (i ≡ j) → c < v.entry_class s i
          go (yes w) = let d : ¬ (v.entry_class s i ≡ c) = λ q. other (omega arith) (rw w at q) in omega (arith, C.over i l h, d)
          go (no w) = omega (arith, C.over j (omega arith) (omega arith), ahead (v.entry_class s) (v.count s) up j i (omega arith) h)

      -- Then the class is not stored.
      pub cursor_nothing : stored v s c ≡ none
      cursor_nothing = stored_nowhere c (λ i h e. go i h e (dec_lt i j))
        where
          go : (i : ℕ) → i < v.count s → v.entry_class s i ≡ c → Dec (i < j) → ⊥
          go i h e (yes l) = omega (arith, C.under i l)
          go i h e (no l) = omega (arith, above i (omega arith) h)

      -- And the cursor stays.
      pub cursor_stays : Cursor v (c + 1) s j
      cursor_stays =
          record { within = C.within; under = λ i l. omega (arith, C.under i l); over = λ i l h. omega (arith, above i l h) }

  -- At the start no entry is passed.
  pub cursor_start : Cursor v 0 s 0
  cursor_start = record { within = omega arith; under = λ i l. absurd (omega arith); over = λ i l h. omega arith }
