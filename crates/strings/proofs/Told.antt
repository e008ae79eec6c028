-- The reports of a scan, byte by byte: the labels of all strings that end there.
use mathlib.Core.Path.{◌≡◌, refl, sym, ap, ap₂, ◌∙◌}
use mathlib.Core.Bool.{true}
use mathlib.Core.List.{List, [], ◌∷◌, ◌++◌, append-nil}
use Prim.Native.Nat.{ℕ, suc, ◌+◌, ◌*◌, ◌≤◌, ◌<◌}
use native.Mathlib.Omega.{arith}
use lib.Dec.{leb}
use lib.ListN.{length, get_or, take, length-append}
use lib.Seq.{append_snoc, take-append-le, take_all}
use borrow.Author.Tests.{le-leb}
use Rattle.paper.specs.Below.{each, sum}
use Rattle.paper.specs.Words.{Bytes}
use Rattle.paper.specs.Table as table
use Rattle.paper.specs.Scan.{Run, report_bytes, advanced, begun, run, look_plain}
use Rattle.paper.specs.Strings.{Rule, names, labels_ending}
use Rattle.paper.proofs.Below.{each_same}
use Rattle.paper.proofs.Sums.{sum_same}
use Rattle.strings.proofs.Labels.{labels-longest}
use Rattle.strings.proofs.Stands.{Stands, number_stands, stands_start, stands_next}
use Rattle.strings.proofs.ReadBack.{Reads, table_goes, stands_labels}

-- The bytes of all reports of a payload.
abbrev pub tells : List Rule → List ℕ → List ℕ
tells rs w = each (length w) (λ i. report_bytes i (labels_ending rs (take (suc i) w)))

-- With one byte more they are those before and those of the last place.
pub tells_more : (rs : List Rule) (w : List ℕ) (x : ℕ) → tells rs (w ++ (x ∷ [])) ≡ tells rs w ++ report_bytes (length w) (labels_ending rs (w ++ (x ∷ [])))
tells_more rs w x =
    ap (λ (n : ℕ). each n at) (length-append w (x ∷ []) ∙ longer)
    ∙ ap₂ ◌++◌
    (each_same (length w) at (λ i. report_bytes i (labels_ending rs (take (suc i) w)))
    (λ i h. ap (λ (v : List ℕ). report_bytes i (labels_ending rs v)) (take-append-le (suc i) w (x ∷ []) h)))
    (ap (λ (v : List ℕ). report_bytes (length w) (labels_ending rs v)) (take_all (suc (length w)) (w ++ (x ∷ [])) (omega (arith, length-append w (x ∷ [])))))
  where
    at : ℕ → List ℕ
    at i = report_bytes i (labels_ending rs (take (suc i) (w ++ (x ∷ []))))

    longer : length w + 1 ≡ suc (length w)
    longer = omega arith

-- How many reports that are.
abbrev pub told_count : List Rule → List ℕ → ℕ
told_count rs w = sum (length w) (λ i. length (labels_ending rs (take (suc i) w)))

-- With one byte more they are those before and those of the last place.
count_more : (rs : List Rule) (w : List ℕ) (x : ℕ) → told_count rs (w ++ (x ∷ [])) ≡ told_count rs w + length (labels_ending rs (w ++ (x ∷ [])))
count_more rs w x =
    let longer : length (w ++ (x ∷ [])) ≡ suc (length w) = omega (arith, length-append w (x ∷ [])) in
    ap (λ (n : ℕ). sum n at) longer
    ∙ ap₂ ◌+◌
    (sum_same (length w) at (λ i. length (labels_ending rs (take (suc i) w))) (λ i h. ap (λ (v : List ℕ). length (labels_ending rs v)) (take-append-le (suc i) w (x ∷ []) h)))
    (ap (λ (v : List ℕ). length (labels_ending rs v)) (take_all (suc (length w)) (w ++ (x ∷ [])) (omega (arith, length-append w (x ∷ [])))))
  where
    at : ℕ → ℕ
    at i = length (labels_ending rs (take (suc i) (w ++ (x ∷ []))))

-- A scan has read w: it stands for it and has told of it.
pub record Told (rs : List Rule) (w : List ℕ) (r : Run) : Type 0 where
  pub taken_is : r.taken ≡ length w
  pub stands : Stands rs w r.state
  pub few : r.reports ≤ 16 * length w
  pub counted : r.reports ≡ told_count rs w
  pub told : r.written ≡ tells rs w

module _ (rs : List Rule) (some : 0 < length rs) (most : (s : ℕ) → s < length (names rs) → length (labels_ending rs (get_or (names rs) s [])) ≤ 16) where
  -- Any string has at most 16 labels, since its state has.
  pub few_labels : (w : List ℕ) → length (labels_ending rs w) ≤ 16
  few_labels w =
      let S = number_stands rs some w in
      omega (arith, most _ S.state_below, ap length (ap (labels_ending rs) S.name_is ∙ labels-longest rs w))

  module _ (t : List ℕ) (R : Reads rs t) (room : ℕ) where
    -- One byte more.
    told_next : (w : List ℕ) (x : ℕ) (r : Run) → x < 256 → Told rs w r
        → Told rs (w ++ (x ∷ [])) (advanced r (look_plain t r.state (table.class_of t x)) (table.labels t (table.next t r.state (table.class_of t x))))
    told_next w x r h T = record {
      taken_is = omega (arith, T.taken_is, length-append w (x ∷ []));
      stands = there;
      few = omega (arith, T.few, length-append w (x ∷ []), ap length ls, few_labels (w ++ (x ∷ [])));
      counted = ap₂ ◌+◌ T.counted (ap length ls) ∙ sym (count_more rs w x);
      told = ap₂ ◌++◌ T.told (ap₂ report_bytes T.taken_is ls) ∙ sym (tells_more rs w x);
    }
      where
        there : Stands rs (w ++ (x ∷ [])) (table.next t r.state (table.class_of t x))
        there = rw (table_goes rs t R r.state x T.stands.state_below h) (stands_next rs some w r.state x T.stands)

        ls : table.labels t (table.next t r.state (table.class_of t x)) ≡ labels_ending rs (w ++ (x ∷ []))
        ls = stands_labels rs t R (w ++ (x ∷ [])) (table.next t r.state (table.class_of t x)) there

    -- With room for 16 reports for each byte the scan takes every byte.
    pub told_after : (xs w : List ℕ) (r : Run) → Bytes xs → 16 * length (w ++ xs) ≤ room → Told rs w r
        → Told rs (w ++ xs) (run (look_plain t) (table.class_of t) (table.labels t) room xs r)
    told_after [] w r h m T = rw (append-nil w) T
    told_after (x ∷ xs) w r h m T =
        let T' = told_next w x r (h 0) T in
        let fits : leb (advanced r (look_plain t r.state (table.class_of t x)) (table.labels t (table.next t r.state (table.class_of t x)))).reports room ≡ true
        = le-leb _ room (omega (arith, T'.few, length-append w (x ∷ []), length-append w (x ∷ xs))) in
        rw (fits, ← append_snoc w x xs) (told_after xs (w ++ (x ∷ [])) _ (λ i. h (suc i)) (omega (arith, ap length (append_snoc w x xs))) T')

    -- From state 0.
    pub told_all : (xs : List ℕ) → Bytes xs → 16 * length xs ≤ room → Told rs xs (run (look_plain t) (table.class_of t) (table.labels t) room xs (begun 0))
    told_all xs h m = told_after xs [] (begun 0) h m (record { taken_is = refl; stands = stands_start rs some; few = omega arith; counted = refl; told = refl })
