-- Kinds of wrong programs that the promises of judging a patch, of apply and of the patched scan shut out by name. A program here is any function from what it is handed to what it answers and leaves;
-- it is held to its promise on bytes alone.
use mathlib.Core.Path.{◌≡◌, refl, sym, ◌∙◌}
use mathlib.Core.Bool.{true}
use mathlib.Core.List.{List, [], ◌∷◌}
use Prim.Native.Nat.{ℕ}
use native.Mathlib.Omega.{arith}
use lib.ListN.{length}
use Rattle.paper.specs.Words.{Bytes, number16, number32, bytes16, bytes32, ◌⊕◌, check_word_of}
use Rattle.paper.specs.Labels.{label_count, label, labels_from, labels_behind}
use Rattle.paper.specs.Table.{labels, next}
use Rattle.paper.specs.View.{stored, depth_of, worst_hops, view_grounds}
use Rattle.paper.specs.Image as image
use Rattle.paper.specs.Image.{image_grounds}
use Rattle.paper.specs.Results.{label_bytes_of, labels_held_of, record_bytes, entry_bytes, front, trailer, parts, image_of_view, stored_entries, image_of}
use Rattle.paper.specs.Forest.{weight, singles, end_near, joined, d, longest, joined_longest, added_or_dropped, pairs, neighbours, is_root_of, root, points_to, forest, toward_root}
use Rattle.paper.specs.Defaults.{defaults}
use Rattle.paper.specs.Scan.{scan_of}
use Rattle.paper.specs.Patch as patch
use Rattle.paper.specs.Patch.{listed_at, shape_bad_of, patch_grounds, applied, patched_scan_of}
use Rattle.paper.specs.Operations.{Built, Scanned, compacted, scan_grounds, scan, judge_patch_of, apply_grounds, apply, patched_scan_grounds, patched_scan}
use Rattle.paper.specs.Promises.{JudgesPatch, Applies, ScansPatched}
use Rattle.paper.specs.Cases.{T2, X0, X3, room, Case, right}
use Rattle.paper.proofs.Cases.{pick, pick_right}
use Rattle.demands.proofs.Known as known
use Rattle.demands.proofs.Known.{all_bytes}

-- The patch that makes a state of T's image a root is accepted, and the one that makes an entry of a state needless that it does not list is refused with 12. The applied image is longer than the image, and a byte costs other hops with it.
abbrev patching : List Case
patching =
    (judge_patch_of T2 X3 ∷ judge_patch_of T2 X0 ∷ [], 0 ∷ 12 ∷ [])
    ∷ ((apply T2 X3 (room 336)).number ∷ (apply T2 X3 (room 336)).result_length ∷ [], 0 ∷ 336 ∷ [])
    ∷ (length T2 ∷ (scan T2 3 (97 ∷ []) (room 6)).hops ∷ [], 324 ∷ 1 ∷ [])
    ∷ ((patched_scan T2 X3 3 (97 ∷ []) (room 6)).number ∷ (patched_scan T2 X3 3 (97 ∷ []) (room 6)).hops ∷ [], 0 ∷ 0 ∷ []) ∷ []

-- This is right, by computation, and both patches are of bytes.
patching_right : (right patching ≡ true) × (all_bytes X3 ≡ true) × (all_bytes X0 ≡ true)
unfolding all_bytes number16 number32 bytes16 bytes32 ◌⊕◌ check_word_of label_count label labels_from labels_behind labels next stored depth_of worst_hops view_grounds image.labels image.default image.count image.entry_at image_grounds label_bytes_of labels_held_of record_bytes entry_bytes front trailer parts image_of_view stored_entries image_of weight singles end_near joined d longest joined_longest added_or_dropped pairs neighbours is_root_of root points_to forest toward_root defaults compacted scan_of scan_grounds scan patch.state_at_of patch.default patch.count patch.entry_at listed_at shape_bad_of patch_grounds applied patched_scan_of judge_patch_of apply_grounds apply patched_scan_grounds patched_scan
patching_right = (refl, refl, refl)

-- So is each pair of facts of it.
pair : {x y a b : ℕ} → x ∷ y ∷ [] ≡ a ∷ b ∷ [] → (x ≡ a) × (y ≡ b)
pair {x} {y} {a} {b} e = (let z : x ≡ a = cc in z, let z : y ≡ b = cc in z)

fact : (i : ℕ) → (pick i patching).0 ≡ (pick i patching).1
fact i = pick_right i patching patching_right.0

bytes_X3 : Bytes X3
bytes_X3 = known.bytes_tested X3 patching_right.1

bytes_X0 : Bytes X0
bytes_X0 = known.bytes_tested X0 patching_right.2

-- A program p that keeps the promise of judging a patch.
module _ (p : List ℕ → List ℕ → ℕ) (keeps : (b x : List ℕ) → Bytes b → Bytes x → JudgesPatch b x (p b x)) where
  -- It does not refuse everything.
  pub judging_refuses_all : ¬ ((b x : List ℕ) → Bytes b → Bytes x → ¬ (p b x ≡ 0))
  judging_refuses_all wrong = wrong T2 X3 known.bytes_T2 bytes_X3 (keeps T2 X3 known.bytes_T2 bytes_X3 ∙ (pair (fact 0)).0)

  -- It does not accept everything.
  pub judging_accepts_all : ¬ ((b x : List ℕ) → Bytes b → Bytes x → p b x ≡ 0)
  judging_accepts_all wrong =
      let q : ◌≡◌ {A = ℕ} 12 0 = sym (keeps T2 X0 known.bytes_T2 bytes_X0 ∙ (pair (fact 0)).1) ∙ wrong T2 X0 known.bytes_T2 bytes_X0 in
      absurd (omega arith)

-- A program p that keeps the promise of apply.
module _ (p : List ℕ → List ℕ → List ℕ → Built)
    (keeps : (b x room : List ℕ) → Bytes b → Bytes x → Bytes room → Applies b x room (p b x room).number (p b x room).result_length (p b x room).room) where
  -- What it promises of that patch.
  kept : Applies T2 X3 (room 336) (p T2 X3 (room 336)).number (p T2 X3 (room 336)).result_length (p T2 X3 (room 336)).room
  kept = keeps T2 X3 (room 336) known.bytes_T2 bytes_X3 (known.bytes_room 336)

  -- It does not refuse everything.
  pub apply_refuses_all : ¬ ((b x room : List ℕ) → Bytes b → Bytes x → Bytes room → ¬ ((p b x room).number ≡ 0))
  apply_refuses_all wrong = wrong T2 X3 (room 336) known.bytes_T2 bytes_X3 (known.bytes_room 336) (kept.number_is ∙ (pair (fact 1)).0)

  -- It does not hand every image back as it is.
  pub apply_copies : ¬ ((b x room : List ℕ) → Bytes b → Bytes x → Bytes room → (p b x room).number ≡ 0 → (p b x room).result_length ≡ length b)
  apply_copies wrong =
      let q : ◌≡◌ {A = ℕ} 336 324 =
      sym (kept.length_is ∙ (pair (fact 1)).1) ∙ wrong T2 X3 (room 336) known.bytes_T2 bytes_X3 (known.bytes_room 336) (kept.number_is ∙ (pair (fact 1)).0) ∙ (pair (fact 2)).0 in
      absurd (omega arith)

-- A program p that keeps the promise of the patched scan.
module _ (p : List ℕ → List ℕ → ℕ → List ℕ → List ℕ → Scanned)
    (keeps : (b x : List ℕ) (s : ℕ) (payload room : List ℕ) → Bytes b → Bytes x → Bytes payload → Bytes room
    → ScansPatched b x s payload room (p b x s payload room).number (p b x s payload room).taken (p b x s payload room).state (p b x s payload room).reports (p b x s payload room).hops (p b x s payload room).room) where
  -- What it promises of that patch and the byte "a".
  scanned : let o = p T2 X3 3 (97 ∷ []) (room 6) in ScansPatched T2 X3 3 (97 ∷ []) (room 6) o.number o.taken o.state o.reports o.hops o.room
  scanned = keeps T2 X3 3 (97 ∷ []) (room 6) known.bytes_T2 bytes_X3 known.bytes_a (known.bytes_room 6)

  -- It does not refuse everything.
  pub patched_refuses_all : ¬ ((b x : List ℕ) (s : ℕ) (payload room : List ℕ) → Bytes b → Bytes x → Bytes payload → Bytes room → ¬ ((p b x s payload room).number ≡ 0))
  patched_refuses_all wrong = wrong T2 X3 3 (97 ∷ []) (room 6) known.bytes_T2 bytes_X3 known.bytes_a (known.bytes_room 6) (scanned.number_is ∙ (pair (fact 3)).0)

  -- It does not scan with the image alone.
  pub patched_image_alone : ¬ ((b x : List ℕ) (s : ℕ) (payload room : List ℕ) → Bytes b → Bytes x → Bytes payload → Bytes room → (p b x s payload room).number ≡ 0 → (p b x s payload room).hops ≡ (scan b s payload room).hops)
  patched_image_alone wrong =
      let q : ◌≡◌ {A = ℕ} 0 1 =
      sym (scanned.hops_is ∙ (pair (fact 3)).1) ∙ wrong T2 X3 3 (97 ∷ []) (room 6) known.bytes_T2 bytes_X3 known.bytes_a (known.bytes_room 6) (scanned.number_is ∙ (pair (fact 3)).0) ∙ (pair (fact 2)).1 in
      absurd (omega arith)
