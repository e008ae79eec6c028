-- After each test the number is decided by the grounds that are left.
-- First stand the places past each ground: what was read there, the grounds that are left, and what is known of the patch. The answers follow.
use mathlib.Core.Path.{sym, ◌∙◌, ◌≡◌, ap}
use native.Mathlib.Omega.{arith}
use Rattle.paper.proofs.Tests.{holds_differ, same_differ}
use Rattle.table.proofs.Decided.{applies, Decided, passed}
use Rattle.judgepatch.proofs.Grounds.{behind_image, from24, from8, from9, from10, read_so, own_so}
use mathlib.Core.Bool.{false}
use mathlib.Core.List.{List, ◌∷◌}
use Prim.Native.Nat.{ℕ, ◌≤◌}
use lib.ListN.{length}
use Rattle.paper.specs.Below.{differ}
use Rattle.paper.specs.Labels.{states_in_word}
use Rattle.paper.specs.Image as image
use Rattle.paper.specs.Image.{states, classes}
use Rattle.paper.specs.Patch.{listed_states, entries, image_word, shape_bad_of}
use Rattle.paper.specs.Operations.{judge_patch_of}
use Rattle.std.proofs.lemmas.Result.{err_from_is_err_and}
use Rattle.facts.proofs.ImageFacts.{AcceptedImage, accepted_image}
use Rattle.facts.proofs.PatchFacts.{shaped_patch, states-listed}
use Rattle.words.proofs.Lent.{fits_bytes}
use Rattle.patch.specs.Shaped.{Shaped, Counts}
use Rattle.patch.specs.Listed.{Listed}
use Rattle.patch.specs.Overlay.{Overlay}
use Rattle.patch.proofs.Shapes.{shaped}
use Rattle.overlaid.specs.Chosen.{last_grounds_of}
use Rattle.judgepatch.proofs.Overlays.{counts_so, overlay_so}
use Rattle.judgepatch.proofs.judge_over.Goals as goal
use Rattle.judgepatch.proofs.judge_over.Goals.{After-get32-q, After-shape_bad, Else-entry_classes_bad, Else-next_bad, Else-records_bad, Else-shape_bad, Else-states_bad}

-- The image and the patch.
abbrev pub B : After-shape_bad → List ℕ
B c = c.args.image.now.bytes.now

abbrev pub X : After-shape_bad → List ℕ
X c = c.args.x.now

-- The image is accepted.
pub accepted : (c : After-shape_bad) → AcceptedImage (B c)
accepted c = accepted_image _ c.args.image.now.accepted

-- Past ground 22.
not_22 : (c : Else-shape_bad) → shape_bad_of (X (goal.at.Else-shape_bad c).After-shape_bad) ≡ false
not_22 c = sym c.shape_bad.ensures ∙ c.if-shape_bad.false

pub past₂₂ : (c : Else-shape_bad)
    → Decided (judge_patch_of (B (goal.at.Else-shape_bad c).After-shape_bad) (X (goal.at.Else-shape_bad c).After-shape_bad)) ((23, differ (image_word (X (goal.at.Else-shape_bad c).After-shape_bad)) (image.check (B (goal.at.Else-shape_bad c).After-shape_bad))) ∷ from24 (B (goal.at.Else-shape_bad c).After-shape_bad) (X (goal.at.Else-shape_bad c).After-shape_bad) (states (B (goal.at.Else-shape_bad c).After-shape_bad)) (classes (B (goal.at.Else-shape_bad c).After-shape_bad)) (listed_states (X (goal.at.Else-shape_bad c).After-shape_bad)) (entries (X (goal.at.Else-shape_bad c).After-shape_bad)))
past₂₂ c = passed (behind_image (B (goal.at.Else-shape_bad c).After-shape_bad) (X (goal.at.Else-shape_bad c).After-shape_bad) (accepted (goal.at.Else-shape_bad c).After-shape_bad)) (not_22 c)

-- The patch has at least 22 bytes.
pub long : (c : Else-shape_bad) → 22 ≤ length (X (goal.at.Else-shape_bad c).After-shape_bad)
long c = omega (arith, (shaped_patch (X (goal.at.Else-shape_bad c).After-shape_bad) (not_22 c)).long)

-- The numbers that were read.
abbrev pub N : After-get32-q → ℕ
N c = c.args.image.now.n

abbrev pub K : After-get32-q → ℕ
K c = c.args.image.now.k

abbrev pub M : After-get32-q → ℕ
M c = c.args.image.now.m

abbrev pub P : After-get32-q → ℕ
P c = c.get16-p.result

abbrev pub Q : After-get32-q → ℕ
Q c = c.get32-q.result

-- The number of states is the image's.
states_read : (c : After-get32-q) → N c ≡ states (B (goal.at.After-get32-q c).After-shape_bad)
states_read c = c.args.image.now.states_are

-- The patch is shaped.
pub shape : (c : After-get32-q) → Shaped (X (goal.at.After-get32-q c).After-shape_bad) (P c) (Q c)
shape c =
    shaped (X (goal.at.After-get32-q c).After-shape_bad) (fits_bytes (X (goal.at.After-get32-q c).After-shape_bad) c.type_inv.x) (not_22 (goal.at.After-get32-q c).Else-shape_bad) (P c) (Q c) c.get16-p.ensures c.get32-q.ensures

-- Past ground 23.
pub past₂₃ : (c : After-get32-q) → Decided (judge_patch_of (B (goal.at.After-get32-q c).After-shape_bad) (X (goal.at.After-get32-q c).After-shape_bad)) (from24 (B (goal.at.After-get32-q c).After-shape_bad) (X (goal.at.After-get32-q c).After-shape_bad) (N c) (K c) (P c) (Q c))
past₂₃ c =
    read_so (B (goal.at.After-get32-q c).After-shape_bad) (X (goal.at.After-get32-q c).After-shape_bad) (accepted (goal.at.After-get32-q c).After-shape_bad) (N c) (K c) (P c) (Q c) (states_read c) c.args.image.now.classes_are c.get16-p.ensures c.get32-q.ensures
    (passed (past₂₂ (goal.at.After-get32-q c).Else-shape_bad) (same_differ _ _ (sym c.get16.ensures ∙ c.if-get16.false ∙ c.get16-2.ensures)))

-- Past ground 24 the listed states rise and are below n.
pub listed : (c : Else-states_bad) → Listed (X (goal.at.Else-states_bad c).After-shape_bad) (P (goal.at.Else-states_bad c).After-get32-q) (N (goal.at.Else-states_bad c).After-get32-q)
listed c =
    let (up, below) = states-listed (X (goal.at.Else-states_bad c).After-shape_bad) (P (goal.at.Else-states_bad c).After-get32-q) (N (goal.at.Else-states_bad c).After-get32-q) (sym c.states_bad.ensures ∙ c.if-states_bad.false) in
    record { rises = up; below = below }

pub past₂₄ : (c : Else-states_bad) → Decided (judge_patch_of (B (goal.at.Else-states_bad c).After-shape_bad) (X (goal.at.Else-states_bad c).After-shape_bad)) (from8 (B (goal.at.Else-states_bad c).After-shape_bad) (X (goal.at.Else-states_bad c).After-shape_bad) (N (goal.at.Else-states_bad c).After-get32-q) (K (goal.at.Else-states_bad c).After-get32-q) (P (goal.at.Else-states_bad c).After-get32-q) (Q (goal.at.Else-states_bad c).After-get32-q))
past₂₄ c =
    own_so (B (goal.at.Else-states_bad c).After-shape_bad) (X (goal.at.Else-states_bad c).After-shape_bad) (accepted (goal.at.Else-states_bad c).After-shape_bad) (N (goal.at.Else-states_bad c).After-get32-q) (K (goal.at.Else-states_bad c).After-get32-q) (P (goal.at.Else-states_bad c).After-get32-q) (Q (goal.at.Else-states_bad c).After-get32-q) (states_read (goal.at.Else-states_bad c).After-get32-q) c.args.image.now.classes_are c.get16-p.ensures c.get32-q.ensures (listed c)
    (passed (past₂₃ (goal.at.Else-states_bad c).After-get32-q) (sym c.states_bad.ensures ∙ c.if-states_bad.false))

-- Past ground 8 the patch counts its entries.
pub counts : (c : Else-records_bad) → Counts (X (goal.at.Else-records_bad c).After-shape_bad) (P (goal.at.Else-records_bad c).After-get32-q) (Q (goal.at.Else-records_bad c).After-get32-q)
counts c =
    counts_so (shape (goal.at.Else-records_bad c).After-get32-q) (N (goal.at.Else-records_bad c).After-get32-q) (K (goal.at.Else-records_bad c).After-get32-q) (omega (arith, (accepted (goal.at.Else-records_bad c).After-shape_bad).few_classes, c.args.image.now.classes_are)) (sym c.records_bad.ensures ∙ c.if-records_bad.false)

pub past₈ : (c : Else-records_bad) → Decided (judge_patch_of (B (goal.at.Else-records_bad c).After-shape_bad) (X (goal.at.Else-records_bad c).After-shape_bad)) (from9 (B (goal.at.Else-records_bad c).After-shape_bad) (X (goal.at.Else-records_bad c).After-shape_bad) (N (goal.at.Else-records_bad c).After-get32-q) (K (goal.at.Else-records_bad c).After-get32-q) (P (goal.at.Else-records_bad c).After-get32-q) (Q (goal.at.Else-records_bad c).After-get32-q))
past₈ c = passed (past₂₄ (goal.at.Else-records_bad c).Else-states_bad) (sym c.records_bad.ensures ∙ c.if-records_bad.false)

-- Past ground 9.
pub past₉ : (c : Else-entry_classes_bad) → Decided (judge_patch_of (B (goal.at.Else-entry_classes_bad c).After-shape_bad) (X (goal.at.Else-entry_classes_bad c).After-shape_bad)) (from10 (B (goal.at.Else-entry_classes_bad c).After-shape_bad) (X (goal.at.Else-entry_classes_bad c).After-shape_bad) (N (goal.at.Else-entry_classes_bad c).After-get32-q) (K (goal.at.Else-entry_classes_bad c).After-get32-q) (P (goal.at.Else-entry_classes_bad c).After-get32-q) (Q (goal.at.Else-entry_classes_bad c).After-get32-q))
past₉ c = passed (past₈ (goal.at.Else-entry_classes_bad c).Else-records_bad) (sym c.entry_classes_bad.ensures ∙ c.if-entry_classes_bad.false)

-- Past ground 10 the last three are left.
pub past₁₀ : (c : Else-next_bad) → Decided (judge_patch_of (B (goal.at.Else-next_bad c).After-shape_bad) (X (goal.at.Else-next_bad c).After-shape_bad)) (last_grounds_of (B (goal.at.Else-next_bad c).After-shape_bad) (X (goal.at.Else-next_bad c).After-shape_bad))
past₁₀ c = passed (past₉ (goal.at.Else-next_bad c).Else-entry_classes_bad) (sym c.next_bad.ensures ∙ c.if-next_bad.false)

-- And image and patch are an overlay.
pub overlay : (c : Else-next_bad) → Overlay (B (goal.at.Else-next_bad c).After-shape_bad) (X (goal.at.Else-next_bad c).After-shape_bad) (N (goal.at.Else-next_bad c).After-get32-q) (K (goal.at.Else-next_bad c).After-get32-q) (M (goal.at.Else-next_bad c).After-get32-q) (P (goal.at.Else-next_bad c).After-get32-q) (Q (goal.at.Else-next_bad c).After-get32-q)
overlay c =
    overlay_so (accepted (goal.at.Else-next_bad c).After-shape_bad) (states_read (goal.at.Else-next_bad c).After-get32-q) c.args.image.now.classes_are c.args.image.now.entries_are (counts (goal.at.Else-next_bad c).Else-records_bad) (listed (goal.at.Else-next_bad c).Else-states_bad)
    (sym c.records_bad.ensures ∙ c.if-records_bad.false) (sym c.entry_classes_bad.ensures ∙ c.if-entry_classes_bad.false) (sym c.next_bad.ensures ∙ c.if-next_bad.false)

pub returns-then-shape_bad-clause-number : goal.returns-then-shape_bad-clause-number
returns-then-shape_bad-clause-number c = applies (behind_image (B (goal.at.returns-then-shape_bad-clause-number c).After-shape_bad) (X (goal.at.returns-then-shape_bad-clause-number c).After-shape_bad) (accepted (goal.at.returns-then-shape_bad-clause-number c).After-shape_bad)) (sym c.shape_bad.ensures ∙ c.if-shape_bad.true)

pub overflow_sub-x : goal.overflow_sub-x
overflow_sub-x c = omega (arith, long (goal.at.overflow_sub-x c).Else-shape_bad)

pub overflow_sub-b : goal.overflow_sub-b
overflow_sub-b c = omega (arith, (accepted (goal.at.overflow_sub-b c).After-shape_bad).long)

pub get16-requires : goal.get16-requires
get16-requires c = omega (arith, long (goal.at.get16-requires c).Else-shape_bad)

pub get16-requires-2 : goal.get16-requires-2
get16-requires-2 c = omega (arith, (accepted (goal.at.get16-requires-2 c).After-shape_bad).long)

pub returns-then-get16-clause-number : goal.returns-then-get16-clause-number
returns-then-get16-clause-number c =
    applies (past₂₂ (goal.at.returns-then-get16-clause-number c).Else-shape_bad) ((holds_differ _ _).1 (λ e. c.if-get16.true (c.get16.ensures ∙ e ∙ sym c.get16-2.ensures)))

pub get16-p-requires : goal.get16-p-requires
get16-p-requires c = omega (arith, long (goal.at.get16-p-requires c).Else-shape_bad)

pub get32-q-requires : goal.get32-q-requires
get32-q-requires c = omega (arith, long (goal.at.get32-q-requires c).Else-shape_bad)

pub states_bad-requires : goal.states_bad-requires
states_bad-requires c = shape (goal.at.states_bad-requires c).After-get32-q

pub returns-then-states_bad-clause-number : goal.returns-then-states_bad-clause-number
returns-then-states_bad-clause-number c = applies (past₂₃ (goal.at.returns-then-states_bad-clause-number c).After-get32-q) (sym c.states_bad.ensures ∙ c.if-states_bad.true)

pub records_bad-requires : goal.records_bad-requires
records_bad-requires c = shape (goal.at.records_bad-requires c).After-get32-q

pub returns-then-records_bad-clause-number : goal.returns-then-records_bad-clause-number
returns-then-records_bad-clause-number c = applies (past₂₄ (goal.at.returns-then-records_bad-clause-number c).Else-states_bad) (sym c.records_bad.ensures ∙ c.if-records_bad.true)

pub begins_of-begins-requires : goal.begins_of-begins-requires
begins_of-begins-requires c = counts (goal.at.begins_of-begins-requires c).Else-records_bad

pub entry_classes_bad-requires : goal.entry_classes_bad-requires
entry_classes_bad-requires c = (counts (goal.at.entry_classes_bad-requires c).Else-records_bad, c.begins_of-begins.ensures)

pub returns-then-entry_classes_bad-clause-number : goal.returns-then-entry_classes_bad-clause-number
returns-then-entry_classes_bad-clause-number c = applies (past₈ (goal.at.returns-then-entry_classes_bad-clause-number c).Else-records_bad) (sym c.entry_classes_bad.ensures ∙ c.if-entry_classes_bad.true)

pub next_bad-requires : goal.next_bad-requires
next_bad-requires c = (counts (goal.at.next_bad-requires c).Else-records_bad, c.begins_of-begins.ensures)

pub returns-then-next_bad-clause-number : goal.returns-then-next_bad-clause-number
returns-then-next_bad-clause-number c = applies (past₉ (goal.at.returns-then-next_bad-clause-number c).Else-entry_classes_bad) (sym c.next_bad.ensures ∙ c.if-next_bad.true)

pub last_grounds-requires : goal.last_grounds-requires
last_grounds-requires c = overlay (goal.at.last_grounds-requires c).Else-next_bad

pub returns-in_err-last_grounds-clause-number : goal.returns-in_err-last_grounds-clause-number
returns-in_err-last_grounds-clause-number c =
    let p = err_from_is_err_and c.from_residual.result c.from_residual.ensures.1 in
    rw (p.1, p.2) (c.in_err-last_grounds.ensures ∙ sym (past₁₀ (goal.at.returns-in_err-last_grounds-clause-number c).Else-next_bad).decided)

pub invariant_of-result : goal.invariant_of-result
invariant_of-result c =
    record {
      accepted = (past₁₀ (goal.at.invariant_of-result c).Else-next_bad).decided ∙ sym c.in_ok-last_grounds.ensures;
      listed_are = c.get16-p.ensures;
      entries_are = c.get32-q.ensures;
    }
