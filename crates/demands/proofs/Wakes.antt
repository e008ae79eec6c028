-- Each link of the way from a word list to the wakes of the host: what is told before it is told behind it.
use mathlib.Core.Path.{◌≡◌, sym, ap, subst, ◌∙◌}
use mathlib.Core.List.{List}
use Prim.Native.Nat.{ℕ}
use Rattle.paper.specs.Words.{Bytes}
use Rattle.paper.specs.Labels.{Edition}
use Rattle.paper.specs.Table as table
use Rattle.paper.specs.Image as image
use Rattle.paper.specs.Results.{moved, table_of}
use Rattle.paper.specs.Wakes.{Tells, TellsAll, TableWakes, ImageWakes}
use Rattle.paper.specs.Operations.{Scanned, judge_image_of, result, strings, reduce, compact, write, expand, forward, back, rewrite, scan, walk, apply, patched_scan}
use Rattle.paper.specs.Promises.{SameWalk}
use Rattle.facts.proofs.ImageFacts.{accepted_image}
use Rattle.trips.proofs.TableOf.{table_reads, table_of_accepted}
use Rattle.trips.proofs.ResultBytes.{table_of_bytes, moved_bytes}
use Rattle.trips.proofs.WritesBack.{expand_leaves}
use Rattle.trips.proofs.Moves.{Moves, forward_leaves, back_leaves}
use Rattle.trips.proofs.Moved.{moved-reads, moved_accepted}
use Rattle.demands.proofs.Left as left
use Rattle.demands.proofs.Scanned as scanned
use Rattle.demands.proofs.MovedScans as scans
use Rattle.demands.proofs.Rewritten as rewriting
use Rattle.demands.proofs.StringsTold as told
use Rattle.demands.proofs.Reduction as reduction
use Rattle.demands.proofs.Patches as patches

-- An outcome that agrees with one that tells all tells all.
tells_same : {list payload room : List ℕ} {o p : Scanned} → SameWalk o p → Tells list payload room o → Tells list payload room p
tells_same S T =
    record {
      number_is = sym S.number_same ∙ T.number_is;
      taken_is = sym S.taken_same ∙ T.taken_is;
      reports_is = sym S.reports_same ∙ T.reports_is;
      room_is = sym S.room_same ∙ T.room_is;
    }

module _ (list : List ℕ) where
  module _ (b : List ℕ) (B : Bytes b) (e : judge_image_of b ≡ 0) where
    -- The start states of an image and of its table are one.
    starts : table.start (table_of b) ≡ image.start b
    starts = (table_reads b B e).start_is

    -- What the table of an image tells the image tells,
    image_tells : TableWakes list (table_of b) → ImageWakes list b
    image_tells W =
        record {
          accepted = e;
          readable = B;
          tells = λ payload room P short enough.
              tells_same (scanned.accepted_walks b B e (image.start b) payload room P) (subst (λ (s : ℕ). Tells list payload room (walk (table_of b) s payload room)) starts (W.tells payload room P short enough));
        }

    -- and the other way round.
    table_tells : ImageWakes list b → TableWakes list (table_of b)
    table_tells W =
        record {
          accepted = table_of_accepted b B e;
          readable = table_of_bytes b B;
          tells = λ payload room P short enough.
              subst (λ (s : ℕ). Tells list payload room (walk (table_of b) s payload room)) (sym starts) (tells_same (same_turned (scanned.accepted_walks b B e (image.start b) payload room P)) (W.tells payload room P short enough));
        }
      where
        same_turned : {o p : Scanned} → SameWalk o p → SameWalk p o
        same_turned S = record { number_same = sym S.number_same; taken_same = sym S.taken_same; state_same = sym S.state_same; reports_same = sym S.reports_same; room_same = sym S.room_same }

  -- Strings.
  pub strings_wakes : (room : List ℕ) → Bytes list → (strings list room).number ≡ 0 → TableWakes list (result (strings list room))
  strings_wakes room B e =
      let (accepted, _, start, _) = told.left_accepted list room B e in
      record {
        accepted = accepted;
        readable = told.left_bytes list room B e;
        tells = λ payload reports P short enough.
            let (n, t, c, r) = told.walk_tells list room B e payload reports P short enough in
            subst (λ (s : ℕ). Tells list payload reports (walk (result (strings list room)) s payload reports)) (sym start) (record { number_is = n; taken_is = t; reports_is = c; room_is = r });
      }

  -- Reduce.
  pub reduce_wakes : (t room : List ℕ) → (reduce t room).number ≡ 0 → TableWakes list t → TableWakes list (result (reduce t room))
  reduce_wakes t room e W =
      let left = reduction.reduced_accepted t room W.readable e in
      let same = (reduction.reduced_same t room W.readable e).1 in
      record {
        accepted = left.0;
        readable = left.1;
        tells = λ payload reports P short enough.
            let T = W.tells payload reports P short enough in
            let (n, k, c, r) = same payload reports P in
            record { number_is = n ∙ T.number_is; taken_is = k ∙ T.taken_is; reports_is = c ∙ T.reports_is; room_is = r ∙ T.room_is };
      }

  -- Compact, in any order and with any bound.
  pub compact_wakes : (t : List ℕ) (order D : ℕ) (room : List ℕ) → (compact t order D room).number ≡ 0 → TableWakes list t → ImageWakes list (result (compact t order D room))
  compact_wakes t order D room e W = left.of_compact (λ t b. TableWakes list t → ImageWakes list b) image_tells t order D room W.readable e W

  -- Write, with any list of defaults that it accepts.
  pub write_wakes : (t ds room : List ℕ) → (write t ds room).number ≡ 0 → TableWakes list t → ImageWakes list (result (write t ds room))
  write_wakes t ds room e W = left.of_write (λ t b. TableWakes list t → ImageWakes list b) image_tells t ds room W.readable e W

  -- Expand.
  pub expand_wakes : (b room : List ℕ) → (expand b room).number ≡ 0 → ImageWakes list b → TableWakes list (result (expand b room))
  expand_wakes b room e W =
      let (judged, is) = expand_leaves b room e in
      subst (λ (t : List ℕ). TableWakes list t) (sym is) (table_tells b W.readable judged W)

  -- A move that leaves the scans as they are.
  moved_wakes : (b r : List ℕ) (from to : Edition) (room : ℕ) → Moves from to b room → r ≡ moved to b
      → ((s : ℕ) (payload reports : List ℕ) → Bytes payload → scan r s payload reports ≡ scan b s payload reports) → ImageWakes list b → ImageWakes list r
  moved_wakes b r from to room M is same W =
      let A = accepted_image b W.accepted in
      let start : image.start r ≡ image.start b = ap image.start is ∙ (moved-reads b W.readable A to M.few).start_is in
      record {
        accepted = ap judge_image_of is ∙ moved_accepted b W.readable A to M.few;
        readable = subst Bytes (sym is) (moved_bytes to b W.readable);
        tells = λ payload reports P short enough.
            subst (λ (o : Scanned). Tells list payload reports o) (sym (ap (λ (s : ℕ). scan r s payload reports) start ∙ same (image.start b) payload reports P)) (W.tells payload reports P short enough);
      }

  -- Forward.
  pub forward_wakes : (b room : List ℕ) → (forward b room).number ≡ 0 → ImageWakes list b → ImageWakes list (result (forward b room))
  forward_wakes b room e W = let (M, is) = forward_leaves b room e in moved_wakes b (result (forward b room)) _ _ _ M is (scans.forward_scans b room W.readable e) W

  -- Back.
  pub back_wakes : (b room : List ℕ) → (back b room).number ≡ 0 → ImageWakes list b → ImageWakes list (result (back b room))
  back_wakes b room e W = let (M, is) = back_leaves b room e in moved_wakes b (result (back b room)) _ _ _ M is (scans.back_scans b room W.readable e) W

  -- Rewrite.
  pub rewrite_wakes : (b room : List ℕ) → (rewrite b room).number ≡ 0 → ImageWakes list b → ImageWakes list (result (rewrite b room))
  rewrite_wakes b room e W =
      let B = W.readable in
      let r = result (rewrite b room) in
      image_tells r (rewriting.left_bytes b room B e) (rewriting.left_accepted b room B e)
      (subst (λ (t : List ℕ). TableWakes list t) (sym (rewriting.left_table b room B e)) (table_tells b B W.accepted W))

  -- Apply, where the patch leaves the table of the image as it was; and with it the patched scan.
  pub apply_wakes : (b x room : List ℕ) → (apply b x room).number ≡ 0 → table_of (result (apply b x room)) ≡ table_of b → ImageWakes list b
      → ImageWakes list (result (apply b x room)) × TellsAll list (patched_scan b x (image.start b))
  apply_wakes b x room e same W =
      let B = W.readable in
      let r = result (apply b x room) in
      let (_, _, _, start, _, _) = patches.left_named b x room B e in
      let told = image_tells r (patches.left_bytes b x room B e) (patches.left_accepted b x room B e) (subst (λ (t : List ℕ). TableWakes list t) (sym same) (table_tells b B W.accepted W)) in (
        told,
        λ payload reports P short enough.
            subst (λ (o : Scanned). Tells list payload reports o) (sym (patches.left_scans b x room B e (image.start b) payload reports P ∙ ap (λ (s : ℕ). scan r s payload reports) (sym start)))
            (told.tells payload reports P short enough),
      )
