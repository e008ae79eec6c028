-- The scans of an image and of what a move leaves of it are the same, hops and all.
use mathlib.Core.Path.{◌≡◌, refl, sym, ap, ◌∙◌}
use mathlib.Core.List.{List}
use mathlib.Core.Option.{Option}
use Prim.Native.Nat.{ℕ, zero, suc}
use lib.ListN.{length}
use Rattle.paper.specs.Below.{or}
use Rattle.paper.specs.Words.{Bytes}
use Rattle.paper.specs.Refusals.{first}
use Rattle.paper.specs.Labels.{Edition}
use Rattle.paper.specs.View.{Found, here, look}
use Rattle.paper.specs.Image as image
use Rattle.paper.specs.Image.{image_grounds, image_view}
use Rattle.paper.specs.Results.{moved}
use Rattle.paper.specs.Scan.{Run, scan_of}
use Rattle.paper.specs.Operations.{judge_image_of, result, run_grounds, forward, back, scanning, scan_grounds, scan}
use Rattle.facts.proofs.ImageFacts.{AcceptedImage, accepted_image}
use Rattle.trips.proofs.Agree.{find_same}
use Rattle.trips.proofs.Moved.{moved-reads, moved_accepted}
use Rattle.trips.proofs.Moves.{FewFor, forward_leaves, back_leaves}
use Rattle.running.specs.Rules.{image_rules}
use Rattle.running.proofs.Equal.{Equal, runs_equal}
use Rattle.running.proofs.Verdict.{verdict_judged, verdict_clear}
use Rattle.scan.proofs.OneByte.{byte_reached}
use Rattle.scan.proofs.Verdict.{image_numbered}

-- With one number and one room the outcomes are the same where the scans are; of a refusal the scans do not matter.
pub outcomes_equal : (v : ℕ) (r r' : Run) (room : List ℕ) → (v ≡ 0 → r ≡ r') → scanning v r room ≡ scanning v r' room
outcomes_equal zero r r' room e = ap (λ (q : Run). scanning 0 q room) (e refl)
outcomes_equal (suc v) r r' room e = refl

module _ (e : Edition) (b : List ℕ) (B : Bytes b) (z : judge_image_of b ≡ 0) (few : FewFor e b) where
  -- The image moved.
  abbrev c : List ℕ
  c = moved e b

  A : AcceptedImage b
  A = accepted_image b z

  -- It has as many states.
  states_same : image.states b ≡ image.states c
  states_same = (moved-reads b B A e few).view_is.states_same

  -- Its look-ups find the same, and its states have the same labels.
  equal : Equal (image_rules b) (image_rules c)
  equal =
      let R = moved-reads b B A e few in
      record {
        found_same = λ s x hs hx.
            ap (λ (o : Option Found). or o (here 0 0)) (find_same (image_view b) (image_view c) R.view_is A.right.inside s (image.class_of b x) hs)
            ∙ ap (look (image_view c) s) (sym (R.class_is x hx));
        target_below = λ s x hs hx. (byte_reached b A s x hs hx).inside;
        labels_same = λ s hs. sym (R.labels_are s hs);
      }

  -- Both scans give the same number.
  verdict_same : (s : ℕ) (payload : List ℕ) → first (scan_grounds c s payload) ≡ first (scan_grounds b s payload)
  unfolding scan_grounds judge_image_of
  verdict_same s payload =
      verdict_judged (image_grounds c) (image_numbered c) (image.states c) s payload (moved_accepted b B A e few)
      ∙ ap (λ (n : ℕ). first (run_grounds n s payload)) (sym states_same)
      ∙ sym (verdict_judged (image_grounds b) (image_numbered b) (image.states b) s payload z)

  -- Where it is 0 the scans are the same.
  runs_same : (s : ℕ) (payload : List ℕ) (room : ℕ) → Bytes payload → first (scan_grounds b s payload) ≡ 0 → scan_of c s payload room ≡ scan_of b s payload room
  unfolding scan_grounds scan_of
  runs_same s payload room P none =
      let (_, inside, _) = verdict_clear (image_grounds b) (image_numbered b) (image.states b) s payload none in
      sym (runs_equal (image_rules b) (image_rules c) equal s payload room P inside)

  -- So they answer and leave the same.
  scans_same : (s : ℕ) (payload room : List ℕ) → Bytes payload → scan c s payload room ≡ scan b s payload room
  unfolding scan
  scans_same s payload room P =
      ap (λ (v : ℕ). scanning v (scan_of c s payload (length room)) room) (verdict_same s payload)
      ∙ outcomes_equal (first (scan_grounds b s payload)) (scan_of c s payload (length room)) (scan_of b s payload (length room)) room (runs_same s payload (length room) P)

-- The scans of an image and of what forward leaves of it.
pub forward_scans : (b room : List ℕ) → Bytes b → (forward b room).number ≡ 0 → (s : ℕ) (payload reports : List ℕ) → Bytes payload → scan (result (forward b room)) s payload reports ≡ scan b s payload reports
forward_scans b room B e s payload reports P =
    let (M, w) = forward_leaves b room e in
    ap (λ (x : List ℕ). scan x s payload reports) w ∙ scans_same _ b B M.judged M.few s payload reports P

-- The scans of an image and of what back leaves of it.
pub back_scans : (b room : List ℕ) → Bytes b → (back b room).number ≡ 0 → (s : ℕ) (payload reports : List ℕ) → Bytes payload → scan (result (back b room)) s payload reports ≡ scan b s payload reports
back_scans b room B e s payload reports P =
    let (M, w) = back_leaves b room e in
    ap (λ (x : List ℕ). scan x s payload reports) w ∙ scans_same _ b B M.judged M.few s payload reports P
