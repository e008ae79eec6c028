-- What the request for tables from word lists asks, as theorems over the operations' own functions on lists of bytes: from the list to the reports of any walk or scan.
-- Every notion in a statement stands in the definitions, crates/paper/specs.
use mathlib.Core.Path.{◌≡◌}
use mathlib.Core.Logic.{◌↔◌}
use mathlib.Core.List.{List, []}
use Prim.Native.Nat.{ℕ, suc, ◌*◌, ◌≤◌, ◌<◌}
use lib.ListN.{length, get_or, take}
use Rattle.paper.specs.Below.{each, sum}
use Rattle.paper.specs.Words.{Bytes}
use Rattle.paper.specs.Labels.{two}
use Rattle.paper.specs.Table.{edition, states, start}
use Rattle.paper.specs.Scan.{report_bytes}
use Rattle.paper.specs.Strings as list
use Rattle.paper.specs.Strings.{rules, names, labels_ending}
use Rattle.paper.specs.Endings.{EndingOf, IsLongest}
use Rattle.paper.specs.Sentences.{Some}
use Rattle.paper.specs.Operations.{result, filled, judge_table_of, strings, compact, write, scan, walk}
use Rattle.strings.proofs.Listed as listed
use Rattle.demands.proofs.StringsTold as told

-- What strings leaves is an accepted table of edition 2; it has a state for each beginning of a string, and state 0, which stands for the empty one, is its start.
pub strings_accepted : (b room : List ℕ) → Bytes b → (strings b room).number ≡ 0
    → let t = result (strings b room) in (judge_table_of t ≡ 0) × (edition t ≡ two) × (start t ≡ 0) × (states t ≡ length (names (rules b)))
strings_accepted = told.left_accepted

-- After any payload, with room for its reports, the state that a walk of what strings leaves answers stands for the longest ending of the payload that begins some string.
pub stands_for : (b room : List ℕ) → Bytes b → (strings b room).number ≡ 0
    → (payload reports : List ℕ) → Bytes payload → length payload ≤ 65536 → 6 * (16 * length payload) ≤ length reports
    → let o = walk (result (strings b room)) 0 payload reports in
    (o.number ≡ 0) × (o.taken ≡ length payload) × IsLongest b payload (get_or (names (rules b)) o.state [])
stands_for = told.walk_stands

-- The labels that a list of bytes has are exactly those of all strings that are endings of it, rising where strings accepts the list.
pub labels_are_strings : ((b w : List ℕ) (l : ℕ)
    → Some (length (labels_ending (rules b) w)) (λ j. get_or (labels_ending (rules b) w) j 0 ≡ l) ↔ Some (list.count b) (λ i. (list.label b i ≡ l) × EndingOf (list.string b i) w))
    × ((b room : List ℕ) → Bytes b → (strings b room).number ≡ 0
    → (w : List ℕ) (j : ℕ) → suc j < length (labels_ending (rules b) w) → get_or (labels_ending (rules b) w) j 0 < get_or (labels_ending (rules b) w) (suc j) 0)
labels_are_strings = (listed.labels_of_endings, told.left_rising)

-- At each offset of a payload, with room for its reports, a walk of what strings leaves reports exactly these labels of the payload up to there, and so many in all;
-- so does a scan of any image that compact, in any order, or write builds from it.
pub reports_are_strings : (b room : List ℕ) → Bytes b → (strings b room).number ≡ 0
    → (payload reports : List ℕ) → Bytes payload → length payload ≤ 65536 → 6 * (16 * length payload) ≤ length reports
    → let t = result (strings b room) in
    let many = sum (length payload) (λ i. length (labels_ending (rules b) (take (suc i) payload))) in
    let all = filled (each (length payload) (λ i. report_bytes i (labels_ending (rules b) (take (suc i) payload)))) reports in
    let o = walk t 0 payload reports in
    ((o.number ≡ 0) × (o.taken ≡ length payload) × (o.reports ≡ many) × (o.room ≡ all))
    × ((order D : ℕ) (room' : List ℕ) → (compact t order D room').number ≡ 0
    → let s = scan (result (compact t order D room')) 0 payload reports in (s.number ≡ 0) × (s.taken ≡ length payload) × (s.reports ≡ many) × (s.room ≡ all))
    × ((ds room' : List ℕ) → (write t ds room').number ≡ 0
    → let s = scan (result (write t ds room')) 0 payload reports in (s.number ≡ 0) × (s.taken ≡ length payload) × (s.reports ≡ many) × (s.room ≡ all))
reports_are_strings b room B e payload reports P short enough =
    (told.walk_tells b room B e payload reports P short enough, told.compact_tells b room B e payload reports P short enough, told.write_tells b room B e payload reports P short enough)
