-- The bytes of reports give back the labels, and a walk with room for all of them writes them byte by byte.
use mathlib.Core.Path.{◌≡◌, refl, sym, ap, ap₂, ◌∙◌}
use mathlib.Core.Bool.{true}
use mathlib.Core.List.{List, [], ◌∷◌, ◌++◌, append_assoc, append-nil}
use Prim.Native.Nat.{ℕ, suc, ◌+◌, ◌*◌, ◌/◌, ◌%◌, ◌≤◌, ◌<◌}
use native.Mathlib.Omega.{arith}
use lib.Dec.{leb}
use lib.ListN.{length}
use borrow.Author.Tests.{le-leb}
use Rattle.paper.specs.Words.{Bytes, bytes16, bytes32}
use Rattle.paper.specs.Table.{edition, states, classes, class_of, labels, next}
use Rattle.paper.specs.Walk.{next_on, written_after}
use Rattle.paper.specs.Scan.{Run, report_bytes, advanced, run, look_plain}
use Rattle.paper.proofs.Labels.{Small}
use Rattle.facts.proofs.LabelFacts.{most_16}
use Rattle.facts.proofs.TableFacts.{AcceptedTable}

-- The labels in the bytes of reports, 6 bytes each.
abbrev labels_in_of : List ℕ → List ℕ
labels_in_of (a ∷ b ∷ c ∷ d ∷ lo ∷ hi ∷ r) = (lo + 256 * hi) ∷ labels_in_of r
labels_in_of [] = []
labels_in_of (a ∷ []) = []
labels_in_of (a ∷ b ∷ []) = []
labels_in_of (a ∷ b ∷ c ∷ []) = []
labels_in_of (a ∷ b ∷ c ∷ d ∷ []) = []
labels_in_of (a ∷ b ∷ c ∷ d ∷ lo ∷ []) = []

-- They are the labels reported.
labels_in : (offset : ℕ) (ls : List ℕ) → Small ls → labels_in_of (report_bytes offset ls) ≡ ls
unfolding bytes16 bytes32
labels_in offset [] f = refl
labels_in offset (l ∷ ls) f = let e : l % 256 + 256 * (l / 256 % 256) ≡ l = omega (arith, f 0) in ap₂ ◌∷◌ e (labels_in offset ls (λ j. f (suc j)))

-- So equal reports are of equal labels.
pub reports_labels : (offset : ℕ) (ks ls : List ℕ) → Small ks → Small ls → report_bytes offset ks ≡ report_bytes offset ls → ks ≡ ls
reports_labels offset ks ls f g e = sym (labels_in offset ks f) ∙ ap labels_in_of e ∙ labels_in offset ls g

-- What walks of a table rely on: classes and next states in range, at most 16 labels of 16 bits for each state.
pub record Scans (t : List ℕ) : Type 0 where
  pub classed : (x : ℕ) → x < 256 → class_of t x < classes t
  pub inside : (s c : ℕ) → s < states t → c < classes t → next t s c < states t
  pub few : (s : ℕ) → s < states t → length (labels t s) ≤ 16
  pub small : (s : ℕ) → s < states t → Small (labels t s)

-- An accepted table can be walked.
pub table_scans : (t : List ℕ) → AcceptedTable t → ((s : ℕ) → s < states t → Small (labels t s)) → Scans t
table_scans t A h =
    record {
      classed = A.all_classed.below;
      inside = A.inside;
      few = λ s hs. omega (arith, (A.all_labelled s hs).few, most_16 (edition t));
      small = h;
    }

module _ (t : List ℕ) where
  -- The bytes of all reports for a payload from a state, the first byte's at an offset.
  abbrev pub told : ℕ → ℕ → List ℕ → List ℕ
  told = written_after (next_on t) (labels t)

  -- A walk with room for 16 reports for each byte writes them all.
  pub run_told : Scans t → (most : ℕ) (payload : List ℕ) (r : Run) → Bytes payload → r.state < states t → r.reports + 16 * length payload ≤ most
      → (run (look_plain t) (class_of t) (labels t) most payload r).written ≡ r.written ++ told r.taken r.state payload
  run_told S most [] r B h l = sym (append-nil r.written)
  run_told S most (x ∷ xs) r B h l =
      let s = next_on t r.state x in
      let ls = labels t s in
      let hs : s < states t = S.inside r.state (class_of t x) h (S.classed x (B 0)) in
      let few = S.few s hs in
      let q : leb (r.reports + length ls) most ≡ true = le-leb (r.reports + length ls) most (omega arith) in
      rw q (run_told S most xs (advanced r (look_plain t r.state (class_of t x)) ls) (λ i. B (suc i)) hs (omega arith)
      ∙ append_assoc r.written (report_bytes r.taken ls) (told (r.taken + 1) s xs))
