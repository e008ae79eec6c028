-- The scan of an accepted image against its own table: it goes as the table says, and it answers and leaves what the table's walk does, but for the hops.
use mathlib.Core.Path.{◌≡◌, sym, ap, ◌∙◌, subst}
use mathlib.Core.List.{List}
use Prim.Native.Nat.{ℕ}
use lib.ListN.{length}
use Rattle.paper.specs.Words.{Bytes}
use Rattle.paper.specs.Refusals.{first}
use Rattle.paper.specs.Table as table
use Rattle.paper.specs.Table.{table_grounds}
use Rattle.paper.specs.Image as image
use Rattle.paper.specs.Image.{image_grounds}
use Rattle.paper.specs.Results.{table_of}
use Rattle.paper.specs.Scan.{scan_of, walk_of}
use Rattle.paper.specs.Operations.{judge_table_of, judge_image_of, run_grounds, scanning, scan_grounds, scan, walk_grounds, walk}
use Rattle.paper.specs.Promises.{SameWalk}
use Rattle.paper.specs.Follows.{ScansLike}
use Rattle.facts.proofs.ImageFacts.{accepted_image}
use Rattle.trips.proofs.TableOf.{table_reads, table_of_accepted}
use Rattle.running.proofs.Alike.{outcomes_alike}
use Rattle.running.proofs.Verdict.{verdict_judged, verdict_clear}
use Rattle.scan.proofs.Verdict.{image_numbered}
use Rattle.scan.proofs.Follows.{Says, scan_plain, scans_like}
use Rattle.walk.proofs.Verdict.{table_numbered}

-- The walks of a table and the scans of an image agree in all but the hops.
abbrev pub SameWalks : List ℕ → List ℕ → Type 0
SameWalks t b = (s : ℕ) (payload room : List ℕ) → Bytes payload → SameWalk (walk t s payload room) (scan b s payload room)

module _ (b : List ℕ) (B : Bytes b) (e : judge_image_of b ≡ 0) where
  -- The table says of classes, labels and next states what the image says.
  pub table_says : Says b (table_of b)
  table_says =
      let R = table_reads b B e in
      record {
        class_same = λ x h. sym (R.class_is x h);
        labels_same = λ s h. sym (R.labels_are s h);
        next_same = λ s c hs hc. sym (R.next_is s c hs hc);
      }

  -- Its scans go as its table says.
  pub accepted_scans : ScansLike (table_of b) b
  accepted_scans = scans_like b (accepted_image b e) (table_of b) table_says

  -- The table.
  abbrev t : List ℕ
  t = table_of b

  -- It has the image's states.
  states_same : table.states t ≡ image.states b
  states_same = (table_reads b B e).states_is

  -- Scan and walk give the same number.
  verdict_same : (s : ℕ) (payload : List ℕ) → first (walk_grounds t s payload) ≡ first (scan_grounds b s payload)
  unfolding scan_grounds walk_grounds judge_image_of judge_table_of
  verdict_same s payload =
      verdict_judged (table_grounds t) (table_numbered t) (table.states t) s payload (table_of_accepted b B e)
      ∙ ap (λ (n : ℕ). first (run_grounds n s payload)) states_same
      ∙ sym (verdict_judged (image_grounds b) (image_numbered b) (image.states b) s payload e)

  -- So they agree in all but the hops.
  pub accepted_walks : SameWalks t b
  unfolding scan walk scan_grounds
  accepted_walks s payload room P =
      let v = first (scan_grounds b s payload) in
      subst (λ (w : ℕ). SameWalk (scanning w (walk_of t s payload (length room)) room) (scan b s payload room)) (sym (verdict_same s payload))
      (outcomes_alike v (walk_of t s payload (length room)) (scan_of b s payload (length room)) room
      (λ z.
      let (_, inside, _) = verdict_clear (image_grounds b) (image_numbered b) (image.states b) s payload z in
      sym (scan_plain b (accepted_image b e) t table_says s payload (length room) P inside)))
