-- Cursors as places in an image: what stands at the place is what the state stores for the class.
use mathlib.Core.Path.{◌≡◌, refl, sym, ◌∙◌}
use mathlib.Core.List.{List}
use Prim.Native.Nat.{ℕ, ◌+◌, ◌≤◌, ◌<◌}
use native.Mathlib.Decide.{ℕ_discrete, dec_lt}
use native.Mathlib.Omega.{arith}
use lib.ListN.{length, get_or}
use borrow.Author.Tests.{eq-eqb, ne_eqb, lt-ltb, le-ltb}
use Rattle.paper.specs.Words.{number16}
use Rattle.paper.specs.View.{stored}
use Rattle.paper.specs.Image.{states, count, entry_at, default_from_of, image_view}
use Rattle.paper.proofs.Rising.{Rises}
use Rattle.image.specs.Laid.{Laid, Begins}
use Rattle.image.proofs.Begins.{next_begin, begin_in}
use Rattle.chains.proofs.Defaults.{from_none, from_some}
use Rattle.image.specs.Passed.{Passed}
use Rattle.abreast.specs.Keeps.{Cursor}
use Rattle.abreast.proofs.Cursors.{stored_entry, cursor_taken, cursor_nothing, cursor_stays}
use Rattle.sweep.specs.Cursors.{StandsAt, own_at, behind}

-- An entry of the class before the end.
pub own-found : (b : List ℕ) (at end c : ℕ) → at < end → number16 b at ≡ c → number16 b (at + 2) ≡ own_at b at end c
unfolding own_at
own-found b at end c l e = rw (lt-ltb at end l, eq-eqb (number16 b at) c e)

-- An entry of another class.
pub own_other : (b : List ℕ) (at end c : ℕ) → at < end → ¬ (number16 b at ≡ c) → 65535 ≡ own_at b at end c
unfolding own_at
own_other b at end c l e = rw (lt-ltb at end l, ne_eqb (number16 b at) c e)

-- No entry is left.
pub own_ended : (b : List ℕ) (at end c : ℕ) → end ≤ at → 65535 ≡ own_at b at end c
unfolding own_at
own_ended b at end c l = rw (le-ltb at end l)

-- Where nothing was taken the place stays.
pub behind_nothing : (at t : ℕ) → t ≡ 65535 → at ≡ behind at t
unfolding behind
behind_nothing at t e = rw (eq-eqb t 65535 e)

-- Where a target was taken the place goes on by one entry.
pub behind_target : (at t : ℕ) → ¬ (t ≡ 65535) → at + 4 ≡ behind at t
unfolding behind
behind_target at t e = rw (ne_eqb t 65535 e)

module _ (b : List ℕ) (s : ℕ) where
  -- The place of the next entry.
  place_next : (j : ℕ) → entry_at b s j + 4 ≡ entry_at b s (j + 1)
  unfolding entry_at
  place_next j = omega arith

  -- A place before the end is that of an entry, which stands before the end as a whole.
  place_before : (j : ℕ) → entry_at b s j < entry_at b s (count b s) → entry_at b s j + 4 ≤ entry_at b s (count b s)
  unfolding entry_at
  place_before j l = omega arith

  -- The place of an entry is before the end.
  place_under : (j : ℕ) → j < count b s → entry_at b s j < entry_at b s (count b s)
  unfolding entry_at
  place_under j l = omega arith

  -- Any other place is not.
  place_over : (j : ℕ) → count b s ≤ j → entry_at b s (count b s) ≤ entry_at b s j
  unfolding entry_at
  place_over j l = omega arith

  -- The end is behind the count of the entries.
  place_end : Laid b → (begins : List ℕ) → Begins b begins → s < states b → get_or begins (s + 1) 0 ≡ entry_at b s (count b s)
  unfolding entry_at
  place_end L begins B h = omega (arith, B (s + 1) (omega arith), next_begin b L s)

  -- A cursor's place is not behind the end.
  place_within : (c at : ℕ) → StandsAt b c s at → at ≤ entry_at b s (count b s)
  unfolding entry_at
  place_within c at (j, e, C) = omega (arith, e, C.within)

  -- The end is in the image.
  place_in : Laid b → s < states b → entry_at b s (count b s) + 12 ≤ length b
  unfolding entry_at
  place_in L h = omega (arith, next_begin b L s, begin_in b L (s + 1) (omega arith))

-- What was taken is what the state stores for the class, and its cursor stands before the next class.
pub record Taken (b : List ℕ) (c s t at : ℕ) : Type 0 where
  pub stores : stored (image_view b) s c ≡ default_from_of t
  pub stands : StandsAt b (c + 1) s at

module _ {b : List ℕ} {n k m : ℕ} (P : Passed b n k m) (c s j : ℕ) (hs : s < n) (C : Cursor (image_view b) c s j) where
  -- The classes of the state's entries rise.
  up : Rises ((image_view b).entry_class s) (count b s)
  up i = P.rises s i hs

  -- The cursor stands at an entry of the class.
  taken_target : j < count b s → (image_view b).entry_class s j ≡ c → Taken b c s ((image_view b).entry_next s j) (behind (entry_at b s j) ((image_view b).entry_next s j))
  taken_target l e =
      let t = (image_view b).entry_next s j in
      let named : ¬ (t ≡ 65535) = λ q. absurd (omega (arith, P.next_below s j hs l, P.few_states)) in
      record {
        stores = stored_entry (image_view b) s up c j l e ∙ sym (from_some t named);
        stands = (j + 1, sym (behind_target (entry_at b s j) t named) ∙ place_next b s j, cursor_taken (image_view b) s up c j C l e);
      }

  -- It does not.
  taken_nothing : (j < count b s → ¬ ((image_view b).entry_class s j ≡ c)) → Taken b c s 65535 (behind (entry_at b s j) 65535)
  taken_nothing other =
      record {
        stores = cursor_nothing (image_view b) s up c j C other ∙ sym (from_none 65535 refl);
        stands = (j, sym (behind_nothing (entry_at b s j) 65535 refl), cursor_stays (image_view b) s up c j C other);
      }

  -- What is read at the cursor decides.
  taken_there : (end t : ℕ) → end ≡ entry_at b s (count b s) → t ≡ own_at b (entry_at b s j) end c → Taken b c s t (behind (entry_at b s j) t)
  taken_there end t e r = go (dec_lt j (count b s)) (ℕ_discrete ((image_view b).entry_class s j) c)
    where
      go : Dec (j < count b s) → Dec ((image_view b).entry_class s j ≡ c) → Taken b c s t (behind (entry_at b s j) t)
      go (yes l) (yes w) =
          rw (r ∙ sym (own-found b (entry_at b s j) end c (omega (arith, e, place_under b s j l)) w)) (taken_target l w)
      go (yes l) (no w) =
          rw (r ∙ sym (own_other b (entry_at b s j) end c (omega (arith, e, place_under b s j l)) w)) (taken_nothing (λ _. w))
      go (no l) d =
          rw (r ∙ sym (own_ended b (entry_at b s j) end c (omega (arith, e, place_over b s j (omega arith))))) (taken_nothing (λ h. absurd (l h)))

module _ {b : List ℕ} {n k m : ℕ} (P : Passed b n k m) (begins : List ℕ) (B : Begins b begins) (c s at : ℕ) (hs : s < n) (S : StandsAt b c s at) where
  -- The end, by the list of begins.
  end_is : get_or begins (s + 1) 0 ≡ entry_at b s (count b s)
  end_is = place_end b s P.laid begins B (omega (arith, P.states_are))

  -- The places that are read stand in the image.
  pub cursor_fits : (get_or begins (s + 1) 0 ≤ length b) × (at < get_or begins (s + 1) 0 → at + 4 ≤ get_or begins (s + 1) 0) × (at ≤ 600000)
  cursor_fits =
      let L = P.laid in
      let inside = place_in b s L (omega (arith, P.states_are)) in (
        omega (arith, end_is, inside),
        λ l. omega (arith, S.1, end_is, place_before b s S.0 (omega (arith, S.1, end_is))),
        omega (arith, place_within b s c at S, inside, L.long, L.few_states, L.few_entries),
      )

  -- What is read at a cursor before the end is what the state stores.
  pub taken : (t : ℕ) → t ≡ own_at b at (get_or begins (s + 1) 0) c → Taken b c s t (behind at t)
  taken t r = rw S.1 (taken_there P c s S.0 hs S.2 (get_or begins (s + 1) 0) t end_is (rw S.1 at r))
