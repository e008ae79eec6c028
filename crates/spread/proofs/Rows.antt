-- Where the rows of a table stand, and what the row of a default is to the row of its state.
use mathlib.Core.Path.{◌≡◌, sym, ap, ◌∙◌}
use mathlib.Core.Logic.{◌⊎◌, inl, inr}
use mathlib.Core.List.{List}
use mathlib.Core.Option.{some}
use Prim.Native.Nat.{ℕ, suc, ◌+◌, ◌*◌, ◌≤◌, ◌<◌}
use native.Mathlib.Nat.{mul-le-mul, le_refl}
use native.Mathlib.Decide.{dec_lt}
use native.Mathlib.Omega.{arith}
use lib.ListN.{length, get_or}
use Rattle.paper.specs.Words.{number16}
use Rattle.paper.specs.Image.{states, default, default_from_of, image_view}
use Rattle.paper.proofs.Tests.{none≢some}
use Rattle.paper.proofs.Chain.{some_same, chain-default}
use Rattle.facts.proofs.ImageFacts.{image_few_labels}
use Rattle.chains.proofs.Defaults.{from_none}
use Rattle.spread.specs.Rows.{row_at, RowIn, Apart, RowCopied, Inherited, Setting}
use Rattle.spread.proofs.Kept.{kept_same}

-- Of two states one's row ends before the other's begins.
pub rows_apart : (k q s : ℕ) → ¬ (q ≡ s) → (q * k + k ≤ s * k) ⊎ (s * k + k ≤ q * k)
rows_apart k q s w = go (dec_lt q s)
  where
    go : Dec (q < s) → (q * k + k ≤ s * k) ⊎ (s * k + k ≤ q * k)
    go (yes h) = inl (omega (arith, mul-le-mul h (le_refl k)))
    go (no h) = let l : suc s ≤ q = omega arith in inr (omega (arith, mul-le-mul l (le_refl k)))

-- So they have no byte in common.
pub apart_rows : (first k d s : ℕ) → ¬ (d ≡ s) → Apart (row_at first k d) (row_at first k s) k
apart_rows first k d s w i j hi hj e = go (rows_apart k d s w)
  where
    go : (d * k + k ≤ s * k) ⊎ (s * k + k ≤ d * k) → ⊥
    go (inl l) = absurd (omega arith)
    go (inr l) = absurd (omega arith)

-- The row of a state ends where the table does, or before.
pub row_ends : (first n k s : ℕ) → s < n → row_at first k s + 2 * k ≤ row_at first k n
row_ends first n k s h = omega (arith, mul-le-mul h (le_refl k))

-- A state without a default inherits nothing.
pub root_inherited : (def room : List ℕ) (first k s : ℕ) → get_or def s 0 ≡ 65535 → Inherited def room room first k s
root_inherited def room first k s e =
    record {
      kept = kept_same room (row_at first k s) (row_at first k s + 2 * k);
      numbers = λ d q. absurd (none≢some (default_from_of (get_or def s 0)) d (from_none (get_or def s 0) e) q);
    }

-- A state to whose row the row of its default was copied inherits it.
pub copied_inherited : {old room : List ℕ} {first k s d : ℕ} (def : List ℕ) → RowCopied old room (row_at first k d) (row_at first k s) k → default_from_of (get_or def s 0) ≡ some d
    → Inherited def old room first k s
copied_inherited {old} {room} {first} {k} {s} {d} def R e =
    record {
      kept = R.kept;
      numbers = λ x q c h. R.numbers c h ∙ ap (λ (y : ℕ). number16 old (row_at first k y + 2 * c)) (some_same (sym e ∙ q));
    }

module _ {b : List ℕ} {first k : ℕ} {begins def room : List ℕ} (S : Setting b first k begins def room) where
  -- The numbers are small.
  pub setting_small : (first ≤ 17670) × (k ≤ 256)
  setting_small =
      let A = S.accepted in
      (omega (arith, S.first_is, A.few_states, image_few_labels b A), omega (arith, S.classes_are, A.few_classes))

  -- It is the same with another room as long.
  pub setting_kept : (other : List ℕ) → length other ≡ length room → Setting b first k begins def other
  setting_kept other e =
      record {
        accepted = S.accepted;
        first_is = S.first_is;
        classes_are = S.classes_are;
        begin = S.begin;
        falls = S.falls;
        fits = omega (arith, S.fits);
      }

  module _ (s : ℕ) (h : s < states b) where
    -- The row of a state stands in the room.
    pub row_in : RowIn first k room s
    row_in = (omega (arith, S.accepted.few_states), omega (arith, S.fits, row_ends first (states b) k s h))

    -- A default that is kept is that of the image.
    pub default_is : (d : ℕ) → default_from_of (get_or def s 0) ≡ some d → default b s ≡ some d
    default_is d e = S.falls.falls s h ∙ e

    -- It is a state.
    pub default_below : (d : ℕ) → default_from_of (get_or def s 0) ≡ some d → d < states b
    default_below d e = S.accepted.right.inside s d h (default_is d e)

    -- It is another state.
    pub default_other : (d : ℕ) → default_from_of (get_or def s 0) ≡ some d → (d < states b) × (¬ (d ≡ s))
    default_other d e = (default_below d e, λ w. itself (rw w at (default_is d e)))
      where
        itself : default b s ≡ some s → ⊥
        itself q =
            let (l, chained) = S.accepted.right.ends s h in
            let (m, on, longer) = chain-default (image_view b) (states b) s s l chained q in
            let same : l ≡ m = some_same (sym chained ∙ on) in
            absurd (omega arith)
