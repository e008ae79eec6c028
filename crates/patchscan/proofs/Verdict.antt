-- The patched scan's number and answers: the patch's grounds against the image first, then 14, then 15.
use mathlib.Core.Path.{◌≡◌, refl}
use mathlib.Core.Bool.{true}
use mathlib.Core.List.{List}
use Prim.Native.Nat.{ℕ}
use lib.ListN.{length}
use Rattle.paper.specs.View.{view_grounds}
use Rattle.paper.specs.Image.{states, image_grounds}
use Rattle.paper.specs.Patch.{patch_grounds, patched_scan_of}
use Rattle.paper.specs.Operations.{judge_patch_of, patched_scan_grounds, scanning, patched_scan}
use Rattle.paper.proofs.Refusals.{numbered}
use Rattle.paper.specs.Promises.{IsScanned}
use Rattle.answers.specs.Numbers.{number_of}
use Rattle.answers.specs.declared.Refusal.{Refusal}
use Rattle.running.proofs.Verdict.{later, refused_first, refused_later, outcome_ran}

-- No ground of a patch has the number 0.
pub patch_numbered : (b x : List ℕ) → numbered (patch_grounds b x) ≡ true
unfolding patch_grounds image_grounds view_grounds
patch_numbered b x = refl

-- The image or the patch is refused.
pub patched_refused : (b x : List ℕ) (s : ℕ) (payload room : List ℕ) (e : Refusal) → number_of e ≡ judge_patch_of b x → IsScanned (patched_scan b x s payload room) (number_of e) 0 0 0 0 room
unfolding patched_scan patched_scan_grounds judge_patch_of
patched_refused b x s payload room e q =
    refused_first (patch_grounds b x) (patch_numbered b x) (states b) s payload (patched_scan_of b x s payload (length room)) room e q

-- The image takes the patch, and 14 or 15 applies.
pub patched_refused_later : (b x : List ℕ) (s : ℕ) (payload room : List ℕ) (e : Refusal) → 0 ≡ judge_patch_of b x → number_of e ≡ later (states b) s payload
    → IsScanned (patched_scan b x s payload room) (number_of e) 0 0 0 0 room
unfolding patched_scan patched_scan_grounds judge_patch_of
patched_refused_later b x s payload room e z q =
    refused_later (patch_grounds b x) (patch_numbered b x) (states b) s payload (patched_scan_of b x s payload (length room)) room e z q

-- Neither applies: the patched scan answers the scan's four numbers and leaves its reports in the room.
pub patched_ran : (b x : List ℕ) (s : ℕ) (payload room : List ℕ) → 0 ≡ judge_patch_of b x → 0 ≡ later (states b) s payload
    → patched_scan b x s payload room ≡ scanning 0 (patched_scan_of b x s payload (length room)) room
unfolding patched_scan patched_scan_grounds judge_patch_of
patched_ran b x s payload room z q =
    outcome_ran (patch_grounds b x) (patch_numbered b x) (states b) s payload (patched_scan_of b x s payload (length room)) room z q
