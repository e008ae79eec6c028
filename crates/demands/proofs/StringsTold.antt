-- What a walk of the table that strings leaves answers and tells, and a scan of any image that is built from it.
use mathlib.Core.Path.{◌≡◌, refl, sym, ap, subst, ◌∙◌}
use mathlib.Core.List.{List, []}
use Prim.Native.Nat.{ℕ, suc, ◌*◌, ◌/◌, ◌≤◌, ◌<◌}
use native.Mathlib.Omega.{arith}
use lib.ListN.{length, get_or, take}
use Rattle.paper.specs.Below.{each, sum}
use Rattle.paper.specs.Words.{Bytes}
use Rattle.paper.specs.Labels.{two}
use Rattle.paper.specs.Table as table
use Rattle.paper.specs.Scan.{report_bytes, walk_of}
use Rattle.paper.specs.Strings.{rules, names, labels_ending, tabulated}
use Rattle.paper.specs.Endings.{IsLongest}
use Rattle.paper.specs.Operations.{Scanned, result, filled, judge_table_of, scanning, strings, compact, write, scan, walk}
use Rattle.paper.specs.Promises.{SameWalk}
use Rattle.strings.proofs.Inserted.{rising_rises}
use Rattle.strings.proofs.Labels.{labels_rising}
use Rattle.strings.proofs.Listed.{Accepted}
use Rattle.strings.proofs.Stands.{stands_start}
use Rattle.strings.proofs.Told.{Told, told_all}
use Rattle.strings.proofs.Claimed.{is_longest}
use Rattle.readback.proofs.Accepted.{strings_leaves, tabulated_bytes, tabulated-reads, reads-rules, tabulated_accepted}
use Rattle.walk.proofs.Verdict.{walk_done, walk_clear}
use Rattle.demands.proofs.Left as left
use Rattle.demands.proofs.Scanned as scanned

-- The labels of all strings that end at each offset of a payload are told, and nothing else.
abbrev pub TellsAll : List ℕ → List ℕ → List ℕ → Scanned → Type 0
TellsAll b payload reports o =
    (o.number ≡ 0) × (o.taken ≡ length payload) × (o.reports ≡ sum (length payload) (λ i. length (labels_ending (rules b) (take (suc i) payload))))
    × (o.room ≡ filled (each (length payload) (λ i. report_bytes i (labels_ending (rules b) (take (suc i) payload)))) reports)

-- An outcome that agrees with one that tells all tells all.
tells_same : (b payload reports : List ℕ) {o p : Scanned} → SameWalk o p → TellsAll b payload reports o → TellsAll b payload reports p
tells_same b payload reports S (n, t, c, r) = (sym S.number_same ∙ n, sym S.taken_same ∙ t, sym S.reports_same ∙ c, sym S.room_same ∙ r)

module _ (b room : List ℕ) (B : Bytes b) (e : (strings b room).number ≡ 0) where
  -- The table is that of the list,
  left_is : result (strings b room) ≡ tabulated b
  left_is = (strings_leaves b room e).0

  -- which is accepted.
  A : Accepted b
  A = (strings_leaves b room e).1

  -- The table is bytes.
  pub left_bytes : Bytes (result (strings b room))
  left_bytes = subst Bytes (sym left_is) (tabulated_bytes b)

  -- It is an accepted table of edition 2, with a state for each beginning, and its start is state 0.
  pub left_accepted : let t = result (strings b room) in (judge_table_of t ≡ 0) × (table.edition t ≡ two) × (table.start t ≡ 0) × (table.states t ≡ length (names (rules b)))
  left_accepted =
      let R = tabulated-reads b B A in
      subst (λ (t : List ℕ). (judge_table_of t ≡ 0) × (table.edition t ≡ two) × (table.start t ≡ 0) × (table.states t ≡ length (names (rules b)))) (sym left_is)
      (tabulated_accepted b B A, R.edition_is, R.start_is, R.states_is)

  -- The labels of a string rise.
  pub left_rising : (w : List ℕ) (j : ℕ) → suc j < length (labels_ending (rules b) w) → get_or (labels_ending (rules b) w) j 0 < get_or (labels_ending (rules b) w) (suc j) 0
  left_rising w = rising_rises (labels_ending (rules b) w) (labels_rising (rules b) w A.distinct)

  module _ (payload reports : List ℕ) (P : Bytes payload) (short : length payload ≤ 65536) (enough : 6 * (16 * length payload) ≤ length reports) where
    -- The walk has room for every report.
    told : Told (rules b) payload (walk_of (tabulated b) 0 payload (length reports))
    unfolding walk_of
    told = told_all (rules b) A.some A.few_labels (tabulated b) (reads-rules b B A) (length reports / 6) payload P (omega arith)

    -- It is not refused.
    walked : walk (result (strings b room)) 0 payload reports ≡ scanning 0 (walk_of (tabulated b) 0 payload (length reports)) reports
    walked =
        ap (λ (t : List ℕ). walk t 0 payload reports) left_is
        ∙ walk_done (tabulated b) 0 payload reports
        (walk_clear (tabulated b) 0 payload (tabulated_accepted b B A) (omega (arith, (tabulated-reads b B A).states_is, (stands_start (rules b) A.some).state_below)) short)

    -- The state that it answers stands for the longest ending that begins some string.
    pub walk_stands : let o = walk (result (strings b room)) 0 payload reports in
        (o.number ≡ 0) × (o.taken ≡ length payload) × IsLongest b payload (get_or (names (rules b)) o.state [])
    walk_stands =
        subst (λ (o : Scanned). (o.number ≡ 0) × (o.taken ≡ length payload) × IsLongest b payload (get_or (names (rules b)) o.state [])) (sym walked)
        (refl, told.taken_is, subst (λ (w : List ℕ). IsLongest b payload w) (sym told.stands.name_is) (is_longest b payload A.some))

    -- It tells all.
    pub walk_tells : TellsAll b payload reports (walk (result (strings b room)) 0 payload reports)
    walk_tells =
        subst (λ (o : Scanned). TellsAll b payload reports o) (sym walked)
        (refl, told.taken_is, told.counted, ap (λ (w : List ℕ). filled w reports) told.told)

    -- So does a scan of the image that compact builds from it, in any order,
    pub compact_tells : (order D : ℕ) (room' : List ℕ) → (compact (result (strings b room)) order D room').number ≡ 0
        → TellsAll b payload reports (scan (result (compact (result (strings b room)) order D room')) 0 payload reports)
    compact_tells order D room' z =
        tells_same b payload reports (left.of_compact scanned.SameWalks scanned.accepted_walks (result (strings b room)) order D room' left_bytes z 0 payload reports P) walk_tells

    -- and of that which write builds.
    pub write_tells : (ds room' : List ℕ) → (write (result (strings b room)) ds room').number ≡ 0
        → TellsAll b payload reports (scan (result (write (result (strings b room)) ds room')) 0 payload reports)
    write_tells ds room' z =
        tells_same b payload reports (left.of_write scanned.SameWalks scanned.accepted_walks (result (strings b room)) ds room' left_bytes z 0 payload reports P) walk_tells
