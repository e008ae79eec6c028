-- The entries of a state put over a row, entry by entry.
use mathlib.Core.Path.{◌≡◌, refl, sym, ap, ◌∙◌}
use mathlib.Core.List.{List}
use mathlib.Core.Option.{Option, none, some}
use Prim.Native.Nat.{ℕ, suc, ◌+◌, ◌*◌, ◌≤◌, ◌<◌}
use native.Mathlib.Numerals.{add-one}
use native.Mathlib.Decide.{ℕ_discrete, dec_lt}
use native.Mathlib.Omega.{arith}
use lib.ListN.{length}
use borrow.Author.Tests.{eq-eqb, ne_eqb}
use Rattle.paper.specs.Below.{first_of, or, or_else}
use Rattle.paper.specs.Words.{number16, bytes16}
use Rattle.paper.proofs.Rising.{ahead}
use Rattle.words.specs.Placed.{placed}
use Rattle.image.specs.Laid.{Rising}
use Rattle.paper.proofs.Below.{first_of_nowhere}
use Rattle.image.proofs.Rows.{class_at, next_for}
use Rattle.spread.specs.Rows.{Overlaid}
use Rattle.spread.proofs.Placing.{number_placed}
use Rattle.spread.proofs.Kept.{kept_same, kept_then, kept_number, number_before, number_behind}

-- No entry is put at the start.
pub overlaid_none : (part room : List ℕ) (at k : ℕ) → Overlaid part room room at k 0
overlaid_none part room at k = record { kept = kept_same room at (at + 2 * k); numbers = λ c h. refl }

-- A value or none is the value.
or_else_none : (o : Option ℕ) → or_else o none ≡ o
or_else_none none = refl
or_else_none (some x) = refl

module _ {part old room : List ℕ} {at k j : ℕ} (O : Overlaid part old room at k j) (count : ℕ) (R : Rising part count) (h : j < count) where
  -- The next entry is the first of its class.
  stored_here : first_of (suc j) (next_for part (class_at part j)) ≡ some (number16 part (4 * j + 2))
  stored_here =
      let before : first_of j (next_for part (class_at part j)) ≡ none =
      first_of_nowhere (next_for part (class_at part j)) j (λ i l. rw (ne_eqb (class_at part i) (class_at part j) (λ q. absurd (omega (arith, ahead (class_at part) count R.rises i j l h))))) in
      rw (before, eq-eqb (class_at part j) (class_at part j) refl)

  -- Of any other class nothing more is stored.
  stored-before : (c : ℕ) → ¬ (c ≡ class_at part j) → first_of (suc j) (next_for part c) ≡ first_of j (next_for part c)
  stored-before c w = rw (ne_eqb (class_at part j) c (λ q. w (sym q))) (or_else_none (first_of j (next_for part c)))

  -- One entry more is put in each turn.
  pub overlaid_more : (class next : ℕ) → class ≡ class_at part j → class < k → next ≡ number16 part (4 * j + 2) → next < 65536 → at + 2 * k ≤ length old
      → Overlaid part old (placed room (at + 2 * class) (bytes16 next)) at k (j + 1)
  overlaid_more class next e below q small fits =
      let inside : at + 2 * class + 1 < length room = omega (arith, O.kept.long) in
      record {
        kept = kept_then at (at + 2 * k) O.kept (kept_number room (at + 2 * class) next inside) (omega arith) (omega arith) (omega arith) (omega arith);
        numbers = λ c l. rw (add-one j) (go inside c l (ℕ_discrete c class) (dec_lt c class));
      }
    where
      go : at + 2 * class + 1 < length room → (c : ℕ) → c < k → Dec (c ≡ class) → Dec (c < class)
          → number16 (placed room (at + 2 * class) (bytes16 next)) (at + 2 * c) ≡ or (first_of (suc j) (next_for part c)) (number16 old (at + 2 * c))
      go inside c l (yes w) d =
          let stored : first_of (suc j) (next_for part c) ≡ some next = ap (λ (x : ℕ). first_of (suc j) (next_for part x)) (w ∙ e) ∙ stored_here ∙ ap {B = Option ℕ} some (sym q) in
          rw stored (ap (λ (x : ℕ). number16 (placed room (at + 2 * class) (bytes16 next)) (at + 2 * x)) w ∙ number_placed room (at + 2 * class) next inside small)
      go inside c l (no w) (yes d) =
          rw (stored-before c (λ u. w (u ∙ sym e))) (number_before (kept_number room (at + 2 * class) next inside) (at + 2 * c) (omega arith) ∙ O.numbers c l)
      go inside c l (no w) (no d) =
          rw (stored-before c (λ u. w (u ∙ sym e))) (number_behind (kept_number room (at + 2 * class) next inside) (at + 2 * c) (omega arith) ∙ O.numbers c l)
