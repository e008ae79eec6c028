-- One turn of the loop: the scan goes on by a byte, with reports or without, or stops before it.
use mathlib.Core.Path.{◌≡◌, sym, ap, ◌∙◌}
use mathlib.Core.Bool.{true, false}
use mathlib.Core.List.{List, [], ◌∷◌, ◌++◌, append-nil}
use Prim.Native.Nat.{ℕ, ◌+◌, ◌*◌, ◌≤◌, ◌<◌}
use native.Mathlib.Numerals.{add-one}
use native.Mathlib.Omega.{arith}
use lib.Dec.{leb}
use lib.ListN.{length, get_or, drop, length-append}
use lib.Seq.{drop-cons}
use borrow.Author.Tests.{le-leb, lt-leb}
use Rattle.paper.specs.View.{Found}
use Rattle.paper.specs.Scan.{Run, begun, report_bytes}
use Rattle.words.specs.Placed.{placed}
use Rattle.words.proofs.Placed.{placed_then}
use Rattle.running.proofs.Bytewise.{run_fits, run_full}
use Rattle.running.specs.Rules.{Rules, found_on, going, Reached}
use Rattle.running.proofs.Report.{reports_length}
use Rattle.running.proofs.Going.{at, Going}

module _ {R : Rules} {most state : ℕ} {payload room₀ room : List ℕ} {s reports hops i : ℕ} (g : Going R most state payload room₀ room s reports hops i) (h : i < length payload) where
  -- The byte that is next.
  abbrev byte : ℕ
  byte = get_or payload i 0

  -- What is found for it.
  abbrev found : Found
  found = found_on R s byte

  -- The running scan.
  abbrev here : Run
  here = at s reports hops i g.written

  next_byte : going R most (drop i payload) here ≡ going R most (byte ∷ drop (i + 1) payload) here
  next_byte =
      let e : drop i payload ≡ byte ∷ drop (i + 1) payload = rw (add-one i) (drop-cons payload i 0 h) in
      ap (λ (xs : List ℕ). going R most xs here) e

  -- The labels of the state that was found.
  module _ (ls : List ℕ) (labels_are : R.labels found.target ≡ ls) where
    -- A byte whose reports have no room is not taken.
    pub going_full : most < reports + length ls → going R most payload (begun state) ≡ here
    going_full f =
        let none : leb (reports + length (R.labels found.target)) most ≡ false = rw labels_are (lt-leb (reports + length ls) most f) in
        g.same ∙ next_byte ∙ run_full R.look R.class_of R.labels most byte (drop (i + 1) payload) here none

    -- One byte more, whose reports have room.
    more : reports + length ls ≤ most
        → going R most payload (begun state)
        ≡ going R most (drop (i + 1) payload) (at found.target (reports + length ls) (hops + found.hops) (i + 1) (g.written ++ report_bytes i ls))
    more f =
        let room-left : leb (reports + length (R.labels found.target)) most ≡ true = rw labels_are (le-leb (reports + length ls) most f) in
        g.same ∙ next_byte ∙ run_fits R.look R.class_of R.labels most byte (drop (i + 1) payload) here room-left ∙ rw labels_are

    module _ (F : Reached R.states found.target found.hops) where
      -- It is taken, and its reports stand behind those before.
      taken : length ls ≤ 16 → reports + length ls ≤ most → (room' : List ℕ) → room' ≡ placed room₀ 0 (g.written ++ report_bytes i ls)
          → Going R most state payload room₀ room' found.target (reports + length ls) (hops + found.hops) (i + 1)
      taken few f room' d =
          record {
            written = g.written ++ report_bytes i ls;
            within = omega arith;
            inside = F.inside;
            cheap = omega (arith, g.cheap, F.few);
            few = omega (arith, g.few);
            fits = f;
            long = length-append g.written (report_bytes i ls) ∙ omega (arith, reports_length i ls, g.long);
            room_is = d;
            same = more f;
          }

      module _ (s' reports' hops' : ℕ) (s_is : s' ≡ found.target) (hops_are : hops' ≡ hops + found.hops) where
        -- A byte without a report.
        pub going_quiet : ls ≡ [] → reports' ≡ reports → Going R most state payload room₀ room s' reports' hops' (i + 1)
        going_quiet e q =
            let none : length ls ≡ 0 = rw e in
            let same : reports' ≡ reports + length ls = omega arith in
            let nothing : g.written ≡ g.written ++ report_bytes i ls = rw e (sym (append-nil g.written)) in
            rw (s_is, hops_are, same) (taken (omega arith) (omega (arith, g.fits)) room (g.room_is ∙ ap (placed room₀ 0) nothing))

        -- A byte with reports.
        pub going_loud : length ls ≤ 16 → reports + length ls ≤ most → 6 * most ≤ length room₀ → (room' : List ℕ) → room' ≡ placed room (6 * reports) (report_bytes i ls)
            → reports' ≡ reports + length ls → Going R most state payload room₀ room' s' reports' hops' (i + 1)
        going_loud few f capacity room' d q =
            let bs = report_bytes i ls in
            rw (s_is, hops_are, q) (taken few f room'
            (d ∙ ap (λ (x : List ℕ). placed x (6 * reports) bs) g.room_is
            ∙ placed_then room₀ 0 g.written (6 * reports) (omega (arith, g.long)) (omega (arith, reports_length i ls)) bs))
