-- The patched scan of an image and a patch that it takes, and the scan of the applied image, are the same, hops and all.
use mathlib.Core.Path.{◌≡◌, sym, ap, ◌∙◌}
use mathlib.Core.List.{List}
use Prim.Native.Nat.{ℕ}
use lib.ListN.{length}
use Rattle.paper.specs.Words.{Bytes}
use Rattle.paper.specs.Refusals.{first}
use Rattle.paper.specs.View.{look}
use Rattle.paper.specs.Image as image
use Rattle.paper.specs.Image.{image_grounds, image_view}
use Rattle.paper.specs.Patch.{patched_view, patch_grounds, applied, patched_scan_of}
use Rattle.paper.specs.Scan.{scan_of}
use Rattle.paper.specs.Operations.{judge_image_of, run_grounds, scanning, scan_grounds, scan, judge_patch_of, patched_scan_grounds, patched_scan}
use Rattle.facts.proofs.ImageFacts.{image_accepted}
use Rattle.facts.proofs.Finds.{look_within}
use Rattle.facts.proofs.PatchFacts.{AcceptedPatch, accepted_patch}
use Rattle.trips.proofs.Applied.{applied-reads, applied_facts, applied-look, applied-states}
use Rattle.running.specs.Rules.{image_rules}
use Rattle.running.proofs.Equal.{Equal, runs_equal}
use Rattle.running.proofs.Verdict.{verdict_judged, verdict_clear}
use Rattle.scan.proofs.Verdict.{image_numbered}
use Rattle.patchscan.specs.Rules.{patched_rules}
use Rattle.patchscan.proofs.Verdict.{patch_numbered}
use Rattle.demands.proofs.MovedScans.{outcomes_equal}

module _ (b x : List ℕ) (B : Bytes b) (z : judge_patch_of b x ≡ 0) where
  -- The image with the patch applied.
  abbrev c : List ℕ
  c = applied b x

  A : AcceptedPatch b x
  A = accepted_patch b x z

  -- Its look-ups find the same, and its states have the same labels.
  equal : Equal (patched_rules b x) (image_rules c)
  equal =
      let R = applied-reads b x B A.accepted A.right in
      record {
        found_same = λ s y hs hy. applied-look b x B A.accepted A.right s (image.class_of b y) hs ∙ ap (look (image_view c) s) (sym (R.class_is y hy));
        target_below = λ s y hs hy. (look_within (patched_view b x) A.right s (image.class_of b y) hs (A.accepted.all_classed.below y hy)).0;
        labels_same = λ s hs. sym (R.labels_are s hs);
      }

  -- Both scans give the same number.
  verdict_same : (s : ℕ) (payload : List ℕ) → first (scan_grounds c s payload) ≡ first (patched_scan_grounds b x s payload)
  unfolding scan_grounds patched_scan_grounds judge_image_of judge_patch_of
  verdict_same s payload =
      verdict_judged (image_grounds c) (image_numbered c) (image.states c) s payload (image_accepted c (applied_facts b x B A.accepted A.right))
      ∙ ap (λ (n : ℕ). first (run_grounds n s payload)) (sym (applied-states b x B A.accepted A.right))
      ∙ sym (verdict_judged (patch_grounds b x) (patch_numbered b x) (image.states b) s payload z)

  -- Where it is 0 the scans are the same.
  runs_same : (s : ℕ) (payload : List ℕ) (room : ℕ) → Bytes payload → first (patched_scan_grounds b x s payload) ≡ 0 → scan_of c s payload room ≡ patched_scan_of b x s payload room
  unfolding patched_scan_grounds scan_of patched_scan_of
  runs_same s payload room P none =
      let (_, inside, _) = verdict_clear (patch_grounds b x) (patch_numbered b x) (image.states b) s payload none in
      sym (runs_equal (patched_rules b x) (image_rules c) equal s payload room P inside)

  -- So they answer and leave the same.
  pub patched_scans : (s : ℕ) (payload room : List ℕ) → Bytes payload → patched_scan b x s payload room ≡ scan c s payload room
  unfolding scan patched_scan
  patched_scans s payload room P =
      let g = first (patched_scan_grounds b x s payload) in
      sym (ap (λ (v : ℕ). scanning v (scan_of c s payload (length room)) room) (verdict_same s payload)
      ∙ outcomes_equal g (scan_of c s payload (length room)) (patched_scan_of b x s payload (length room)) room (runs_same s payload (length room) P))
