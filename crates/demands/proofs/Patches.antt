-- Patches as theorems, over what the operations answer and leave: of an accepted patch every proper beginning and every copy with one byte altered is refused; what apply leaves is an accepted image with the
-- image's edition, start, classes and labels, whose scans are the patched scans.
use mathlib.Core.Path.{◌≡◌, refl, sym, ap, subst, ◌∙◌}
use mathlib.Core.Logic.{◌⊎◌, ◌↔◌}
use mathlib.Core.List.{List, [], ◌∷◌}
use Prim.Native.Nat.{ℕ, ◌≤◌, ◌<◌}
use native.Mathlib.Omega.{arith}
use lib.Dec.{ltb}
use lib.ListN.{length, take}
use borrow.Author.Tests.{le-ltb}
use Rattle.paper.specs.Below.{sum}
use Rattle.paper.specs.Words.{Bytes}
use Rattle.paper.specs.Altered.{Altered}
use Rattle.paper.specs.Refusals.{first}
use Rattle.paper.specs.View.{view_grounds}
use Rattle.paper.specs.Image as image
use Rattle.paper.specs.Image.{image_grounds}
use Rattle.paper.specs.Patch.{listed_states, entries, count, patch_grounds, applied}
use Rattle.paper.specs.Operations.{judge_image_of, judge_patch_of, result, building, apply_grounds, apply, scan, patched_scan}
use Rattle.facts.proofs.ImageFacts.{image_accepted}
use Rattle.facts.proofs.PatchFacts.{accepted_patch}
use Rattle.damage.proofs.PatchDamage as damage
use Rattle.trips.proofs.Building.{built-result, first_both, first_neither}
use Rattle.trips.proofs.Applied.{applied-reads, applied_facts}
use Rattle.trips.proofs.ResultBytes.{applied_bytes}
use Rattle.demands.proofs.PatchedScans.{patched_scans}
use Rattle.demands.proofs.PatchExact as exactly

-- What apply accepts is a patch that is accepted against the image, and the image with the patch applied is left.
pub apply_leaves : (b x room : List ℕ) → (apply b x room).number ≡ 0 → (judge_patch_of b x ≡ 0) × (result (apply b x room) ≡ applied b x)
unfolding apply apply_grounds judge_patch_of patch_grounds image_grounds view_grounds
apply_leaves b x room e =
    let (z, w) = built-result (first (apply_grounds b x (length room))) (applied b x) room e in
    ((first_both (patch_grounds b x) ((16, ltb (length room) (length (applied b x))) ∷ []) refl z).0, w)

module _ (b x room : List ℕ) (B : Bytes b) (e : (apply b x room).number ≡ 0) where
  -- What is left.
  abbrev c : List ℕ
  c = result (apply b x room)

  -- It is accepted.
  pub left_accepted : judge_image_of c ≡ 0
  left_accepted =
      let (z, is) = apply_leaves b x room e in
      let A = accepted_patch b x z in
      ap judge_image_of is ∙ image_accepted (applied b x) (applied_facts b x B A.accepted A.right)

  -- It is bytes.
  pub left_bytes : Bytes c
  left_bytes = subst Bytes (sym (apply_leaves b x room e).1) (applied_bytes b x B)

  -- Edition, states, classes, start, the class of each byte and the labels of each state are the image's.
  pub left_named : (image.edition c ≡ image.edition b) × (image.states c ≡ image.states b) × (image.classes c ≡ image.classes b) × (image.start c ≡ image.start b)
      × ((y : ℕ) → y < 256 → image.class_of c y ≡ image.class_of b y) × ((s : ℕ) → s < image.states b → image.labels c s ≡ image.labels b s)
  left_named =
      let (z, is) = apply_leaves b x room e in
      let A = accepted_patch b x z in
      let R = applied-reads b x B A.accepted A.right in
      rw is (R.edition_is, sym R.view_is.states_same, sym R.view_is.classes_same, R.start_is, R.class_is, R.labels_are)

  -- The patched scan answers and leaves what a scan of it does.
  pub left_scans : (s : ℕ) (payload reports : List ℕ) → Bytes payload → patched_scan b x s payload reports ≡ scan c s payload reports
  left_scans s payload reports P =
      let (z, is) = apply_leaves b x room e in
      patched_scans b x B z s payload reports P ∙ ap (λ (d : List ℕ). scan d s payload reports) (sym is)

-- Of a patch that is accepted against an image every proper beginning is refused against it, with 22.
pub patch_prefix_refused : (b x : List ℕ) (p : ℕ) → judge_patch_of b x ≡ 0 → p < length x → judge_patch_of b (take p x) ≡ 22
patch_prefix_refused b x p e l = damage.patch_prefix_refused b x e p l

-- So is every copy with one byte altered.
pub patch_altered_refused : (b x x' : List ℕ) → Bytes x → Bytes x' → judge_patch_of b x ≡ 0 → Altered x x' → judge_patch_of b x' ≡ 22
patch_altered_refused b x x' X X' e a = damage.patch_altered_refused b x e x' X X' a

-- What apply leaves of an image and a patch is an accepted image; edition, number of states and of classes, start, the class of each byte and the labels of each state are the image's.
pub applied_accepted : (b x room : List ℕ) → Bytes b → (apply b x room).number ≡ 0
    → let c = result (apply b x room) in
    (judge_image_of c ≡ 0) × (image.edition c ≡ image.edition b) × (image.states c ≡ image.states b) × (image.classes c ≡ image.classes b) × (image.start c ≡ image.start b)
    × ((y : ℕ) → y < 256 → image.class_of c y ≡ image.class_of b y) × ((s : ℕ) → s < image.states b → image.labels c s ≡ image.labels b s)
applied_accepted b x room B e = let (edition, states, classes, start, classed, labelled) = left_named b x room B e in (left_accepted b x room B e, edition, states, classes, start, classed, labelled)

-- The patched scan answers and leaves what a scan of the applied image does, hops and all, for every state, payload and room.
pub patched_scan_same : (b x room : List ℕ) → Bytes b → (apply b x room).number ≡ 0 → (s : ℕ) (payload reports : List ℕ) → Bytes payload → patched_scan b x s payload reports ≡ scan (result (apply b x room)) s payload reports
patched_scan_same = left_scans

-- A patch is accepted against an image just where apply takes it into a room that is long enough.
pub patch_applied : (b x : List ℕ) → judge_patch_of b x ≡ 0 ↔ ((room : List ℕ) → length (applied b x) ≤ length room → (apply b x room).number ≡ 0)
unfolding apply apply_grounds judge_patch_of patch_grounds image_grounds view_grounds
patch_applied b x = (
  λ e room l.
      ap (λ (g : ℕ). (building g (applied b x) room).number) (first_neither (patch_grounds b x) ((16, ltb (length room) (length (applied b x))) ∷ []) refl e (rw (le-ltb (length room) (length (applied b x)) l))),
  λ all. (apply_leaves b x (applied b x) (all (applied b x) (omega arith))).0,
)

-- Of a patch that is not refused with 22, 23 or 24 against an accepted image, and whose counts sum to its entries, the applied image is accepted just where the patch is, or is refused for its depth and worst alone:
-- with 8 to 12 it is refused exactly where the applied image would be.
pub refused_as_applied : (b x : List ℕ) → Bytes b → Bytes x → judge_image_of b ≡ 0 → ¬ (judge_patch_of b x ≡ 22) → ¬ (judge_patch_of b x ≡ 23) → ¬ (judge_patch_of b x ≡ 24)
    → sum (listed_states x) (count x) ≡ entries x → judge_image_of (applied b x) ≡ 0 ↔ ((judge_patch_of b x ≡ 0) ⊎ (judge_patch_of b x ≡ 13))
refused_as_applied = exactly.refused_as_applied
