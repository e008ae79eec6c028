-- The rows that stand in the room: that of a state whose default's row stands, and those of all states so far.
use mathlib.Core.Path.{◌≡◌, refl, sym, ap, ◌∙◌}
use mathlib.Core.Logic.{◌⊎◌, inl, inr}
use mathlib.Core.List.{List}
use mathlib.Core.Option.{Option, none, some}
use Prim.Native.Nat.{ℕ, ◌+◌, ◌*◌, ◌/◌, ◌≤◌, ◌<◌}
use native.Mathlib.Decide.{ℕ_discrete}
use native.Mathlib.Omega.{arith}
use lib.ListN.{length, get_or}
use Rattle.paper.specs.Below.{first_of, or}
use Rattle.paper.specs.Words.{number16}
use Rattle.paper.specs.View.{stored, look}
use Rattle.paper.specs.Image.{states, default_from_of, entries_part_of, image_view}
use Rattle.paper.proofs.Tests.{none≢some}
use Rattle.image.specs.Forms.{stored_in_of}
use Rattle.image.proofs.Rows.{next_for}
use Rattle.image.proofs.Parts.{part_stored}
use Rattle.image.proofs.Accepted.{accepted_laid}
use Rattle.chains.specs.Orders.{StandsBefore}
use Rattle.facts.proofs.Finds.{root_stores}
use Rattle.trips.proofs.Stored.{goes_own, goes_on}
use Rattle.spread.specs.Kept.{Kept}
use Rattle.spread.specs.Rows.{row_at, Overlaid, Inherited, Setting, RowStands}
use Rattle.spread.proofs.Kept.{number_before, number_behind}
use Rattle.spread.proofs.Rows.{rows_apart, default_is}

module _ {b : List ℕ} {first k : ℕ} {begins def old : List ℕ} (S : Setting b first k begins def old) (s : ℕ) (h : s < states b)
    (known : (d : ℕ) → default_from_of (get_or def s 0) ≡ some d → RowStands b first k old d) where
  -- Over a row that was inherited, what a state stores makes the row that its chain gives.
  pub row_stands : {mid room part : List ℕ} → Inherited def old mid first k s → part ≡ entries_part_of b s → Overlaid part mid room (row_at first k s) k (length part / 4) → RowStands b first k room s
  unfolding stored_in_of
  row_stands {mid} {room} {part} I e O c hc =
      let A = S.accepted in
      let own : first_of (length part / 4) (next_for part c) ≡ stored (image_view b) s c =
      ap (λ (p : List ℕ). stored_in_of p c) e ∙ part_stored b (accepted_laid b A) s h c in
      O.numbers c hc ∙ ap (λ (o : Option ℕ). or o (number16 mid (row_at first k s + 2 * c))) own ∙ go (stored (image_view b) s c) refl (default_from_of (get_or def s 0)) refl
    where
      go : (o : Option ℕ) → stored (image_view b) s c ≡ o → (p : Option ℕ) → default_from_of (get_or def s 0) ≡ p
          → or o (number16 mid (row_at first k s + 2 * c)) ≡ (look (image_view b) s c).target
      go (some t) q p w = sym (goes_own (image_view b) S.accepted.right s c t h q)
      go none q none w =
          let (t, u) = root_stores (image_view b) S.accepted.right s c h (omega (arith, S.classes_are)) (S.falls.falls s h ∙ w) in
          absurd (none≢some (stored (image_view b) s c) t q u)
      go none q (some d) w =
          I.numbers d w c hc ∙ known d w c hc
          ∙ sym (goes_on (image_view b) S.accepted.right s c d h (omega (arith, S.classes_are)) q (default_is S s h d w))

-- The rows of the states at the first i places of an order stand.
abbrev pub Standing : List ℕ → ℕ → ℕ → List ℕ → List ℕ → ℕ → Type 0
Standing b first k room order i = (s : ℕ) → StandsBefore order i s → RowStands b first k room s

module _ (b : List ℕ) (first k s : ℕ) {old room : List ℕ} (K : Kept old room (row_at first k s) (row_at first k s + 2 * k)) where
  -- The row of another state stays.
  other_stays : (q : ℕ) → ¬ (q ≡ s) → RowStands b first k old q → RowStands b first k room q
  other_stays q w R c hc = go (rows_apart k q s w) ∙ R c hc
    where
      go : (q * k + k ≤ s * k) ⊎ (s * k + k ≤ q * k) → number16 room (row_at first k q + 2 * c) ≡ number16 old (row_at first k q + 2 * c)
      go (inl l) = number_before K (row_at first k q + 2 * c) (omega arith)
      go (inr l) = number_behind K (row_at first k q + 2 * c) (omega arith)

  -- One row more stands after each turn.
  pub standing_more : (order : List ℕ) (i : ℕ) → Standing b first k old order i → s ≡ get_or order i 0 → RowStands b first k room s → Standing b first k room order (i + 1)
  standing_more order i D e R q (j, l, at) = go (ℕ_discrete q s)
    where
      go : Dec (q ≡ s) → RowStands b first k room q
      go (yes w) = rw w R
      go (no w) = other_stays q w (D q (j, before (ℕ_discrete j i), at))
        where
          before : Dec (j ≡ i) → j < i
          before (yes u) = absurd (w (sym at ∙ ap (λ (m : ℕ). get_or order m 0) u ∙ sym e))
          before (no u) = omega arith
