-- The scan of what compact leaves in order 3: from a state of level l its hops never exceed the bytes taken and l, so from the start state never the bytes taken.
use mathlib.Core.Path.{◌≡◌, refl, sym, ap, subst, ◌∙◌}
use mathlib.Core.List.{List}
use mathlib.Core.Option.{Option}
use Prim.Native.Nat.{ℕ, ◌+◌, ◌≤◌, ◌<◌}
use native.Mathlib.Omega.{arith}
use lib.ListN.{length, take}
use Rattle.paper.specs.Below.{or}
use Rattle.paper.specs.Words.{Bytes}
use Rattle.paper.specs.Table as table
use Rattle.paper.specs.View.{Found, here, look}
use Rattle.paper.specs.Image.{class_of, image_view}
use Rattle.paper.specs.Results.{table_view, image_of}
use Rattle.paper.specs.FallBack.{toward_start}
use Rattle.paper.specs.Scan.{Run, scan_of}
use Rattle.paper.specs.Reached.{HasLevel}
use Rattle.paper.specs.Operations.{judge_table_of, result, compact, scan}
use Rattle.paper.proofs.Orders.{defaults_toward}
use Rattle.facts.proofs.TableFacts.{AcceptedTable, accepted_table}
use Rattle.trips.proofs.Agree.{find_same}
use Rattle.trips.proofs.ImageOf.{reads}
use Rattle.trips.proofs.DefaultsWritable.{start_writable}
use Rattle.trips.proofs.ExpandsBack.{compact_leaves}
use Rattle.scan.proofs.Verdict.{scan_accepts}
use Rattle.scan.proofs.Follows.{bytes_take, first_run, scan_first}
use Rattle.levels.proofs.Levels.{level-start}
use Rattle.levels.proofs.Payloads.{level_is, has-level, led_inside}
use Rattle.levels.proofs.FallBack.{falls_inside}
use Rattle.nearing.proofs.Payload.{NearsFrom, Nears, walk_nears, walk-nearer, table_nears}

module _ (t : List ℕ) (B : Bytes t) (e : judge_table_of t ≡ 0) where
  -- The image with the defaults toward the start.
  abbrev image : List ℕ
  image = image_of t (toward_start t)

  abbrev A : AcceptedTable t
  A = accepted_table t e

  -- Its look-ups are the table's.
  same_look : (s x : ℕ) → s < table.states t → x < 256 → look (image_view image) s (class_of image x) ≡ look (table_view t (toward_start t)) s (table.class_of t x)
  same_look s x hs hx =
      let R = reads t (toward_start t) B (start_writable t e) in
      ap (look (image_view image) s) (R.class_is x hx)
      ∙ ap (λ (o : Option Found). or o (here 0 0)) (sym (find_same (table_view t (toward_start t)) (image_view image) R.view_is (falls_inside t) s (table.class_of t x) hs))

  -- So each byte costs as in the table.
  image_nears : Nears t (look (image_view image)) (class_of image)
  image_nears s l x hs hx q = subst (NearsFrom t l) (sym (same_look s x hs hx)) (table_nears t e s l x hs hx q)

  module _ (s l : ℕ) (H : HasLevel t s l) (payload room : List ℕ) (P : Bytes payload) where
    -- The hops of a scan from a state of level l never exceed the bytes taken and l, and where a byte was taken they stay below that.
    image_hops : (scan image s payload room).number ≡ 0
        → ((scan image s payload room).hops ≤ (scan image s payload room).taken + l)
        × (0 < (scan image s payload room).taken → (scan image s payload room).hops < (scan image s payload room).taken + l)
    image_hops z =
        let r = scan_of image s payload (length room) in
        let w = sym (scan_first image s payload (length room)) ∙ first_run image s payload (length room) r.taken (omega arith) in
        let hops_are = ap (λ (r : Run). r.hops) w in
        let taken_are = ap (λ (r : Run). r.taken) w in
        let P' = bytes_take r.taken payload P in
        let inside = led_inside t A s H.payload H.leads in
        let at = level_is t A s l H in
        let (m, _, b) = walk_nears t (look (image_view image)) (class_of image) image_nears (take r.taken payload) P' s l inside at in
        rw (scan_accepts image s payload room z).scanned (
          omega (arith, hops_are, taken_are),
          λ some.
              omega (arith, hops_are, taken_are, walk-nearer t (look (image_view image)) (class_of image) image_nears (take r.taken payload) P' (omega (arith, taken_are)) s l inside at),
        )

module _ (t : List ℕ) (D : ℕ) (room : List ℕ) (B : Bytes t) (e : (compact t 3 D room).number ≡ 0) where
  -- The table was accepted, and the image that is left is that of the defaults toward the start.
  left : (result (compact t 3 D room) ≡ image_of t (toward_start t)) × (judge_table_of t ≡ 0)
  left =
      let (w, W) = compact_leaves t 3 D room e in
      (w ∙ ap (λ (f : ℕ → Option ℕ). image_of t f) (defaults_toward t 3 D refl), W.judged)

  -- From a state of level l.
  pub level_hops : (s l : ℕ) → HasLevel t s l → (payload reports : List ℕ) → Bytes payload
      → let b = result (compact t 3 D room) in
      (scan b s payload reports).number ≡ 0
      → ((scan b s payload reports).hops ≤ (scan b s payload reports).taken + l)
      × (0 < (scan b s payload reports).taken → (scan b s payload reports).hops < (scan b s payload reports).taken + l)
  level_hops s l H payload reports P =
      let (w, j) = left in
      rw w (image_hops t B j s l H payload reports P)

  -- From the start state.
  pub start_hops : (payload reports : List ℕ) → Bytes payload
      → let b = result (compact t 3 D room) in
      (scan b (table.start t) payload reports).number ≡ 0 → (scan b (table.start t) payload reports).hops ≤ (scan b (table.start t) payload reports).taken
  start_hops payload reports P z =
      let A = accepted_table t left.1 in
      let H = has-level t A (table.start t) 0 A.begins (level-start t A) in
      omega (arith, (level_hops (table.start t) 0 H payload reports P z).0)
