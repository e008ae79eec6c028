-- The table of an accepted word list: its bytes give back the classes, labels and rows of the rules, and it is accepted.
use mathlib.Core.Path.{◌≡◌, refl, sym, ◌∙◌}
use mathlib.Core.List.{List, [], ◌∷◌, ◌++◌}
use Prim.Native.Nat.{ℕ, ◌<◌}
use native.Mathlib.Decide.{dec_lt}
use native.Mathlib.Omega.{arith}
use lib.ListN.{length, get_or, get_or-eq_default}
use Rattle.paper.specs.Words.{Bytes}
use Rattle.paper.specs.Refusals.{first}
use Rattle.paper.specs.Labels.{two}
use Rattle.paper.specs.Table as table
use Rattle.paper.specs.Strings.{Rule, rules, label, string_at, names, number_of, longest_ending_of, labels_ending, classes, class_of, table_of_rules, tabulated}
use Rattle.paper.specs.Operations.{result, judge_table_of, strings_grounds, strings}
use Rattle.paper.proofs.Words.{number16_below}
use Rattle.paper.proofs.Labels.{Small, behind_same}
use Rattle.paper.proofs.Lists.{length-list, get_or-list}
use Rattle.facts.proofs.LabelFacts.{Labelled, labelled_same}
use Rattle.facts.proofs.TableFacts.{AcceptedTable, table_accepted}
use Rattle.trips.proofs.TableBytes.{TableReads, made_reads}
use Rattle.trips.proofs.ImageReads.{classed_same}
use Rattle.trips.proofs.ResultBytes.{table_from_bytes}
use Rattle.trips.proofs.Building.{built-result}
use Rattle.strings.proofs.Among.{number_of_below}
use Rattle.strings.proofs.Classes.{class_below, class_met, classes_most}
use Rattle.strings.proofs.ByteOf.{class_list, byte_list}
use Rattle.strings.proofs.Inserted.{rising_rises}
use Rattle.strings.proofs.Labels.{labels_rising}
use Rattle.strings.proofs.Stands.{stands_start, longest_is_name}
use Rattle.strings.proofs.Listed.{Accepted, listed, labels_of_endings}
use Rattle.strings.proofs.ReadBack.{Reads}

-- A label has 16 bits.
label_small : (b : List ℕ) (i : ℕ) → Bytes b → label b i < 65536
unfolding label
label_small b i B = number16_below b (string_at b i) B

module _ (b : List ℕ) where
  -- The rules.
  abbrev rs : List Rule
  rs = rules b

  -- The class of a byte as the table is given it.
  abbrev class_at : ℕ → ℕ
  class_at x = get_or (class_list rs) x 0

  -- The labels of a state.
  abbrev labels_of : ℕ → List ℕ
  labels_of s = labels_ending rs (get_or (names rs) s [])

  -- The next state of a state on a class.
  abbrev next_of : ℕ → ℕ → ℕ
  next_of s c = number_of (longest_ending_of (names rs) (get_or (names rs) s [] ++ (get_or (byte_list rs) c 0 ∷ []))) (names rs)

  -- Behind the classes of the 256 bytes there is nothing.
  class_byte : (x : ℕ) → class_at x < 256
  class_byte x = go (dec_lt x 256)
    where
      go : Dec (x < 256) → class_at x < 256
      go (yes h) = omega (arith, get_or-list 256 x (class_of rs) 0 h, class_below rs x h, classes_most rs)
      go (no h) = rw (get_or-eq_default (class_list rs) 0 {n = x} (omega (arith, length-list 256 (class_of rs)))) (omega arith)

  -- The table is bytes.
  pub tabulated_bytes : Bytes (tabulated b)
  unfolding tabulated table_of_rules
  tabulated_bytes = table_from_bytes two (length (names rs)) (classes rs) 0 class_at labels_of next_of class_byte

  module _ (B : Bytes b) (A : Accepted b) where
    -- Each label has 16 bits and is not 0.
    label_range : (w : List ℕ) (j : ℕ) → j < length (labels_ending rs w) → (get_or (labels_ending rs w) j 0 < 65536) × (¬ (get_or (labels_ending rs w) j 0 ≡ 0))
    label_range w j h =
        let (i, hi, (e, n)) = (labels_of_endings b w (get_or (labels_ending rs w) j 0)).0 (j, h, refl) in
        (omega (arith, label_small b i B), λ z. A.labelled i hi (e ∙ z))

    labels_fit : (w : List ℕ) → Small (labels_ending rs w)
    labels_fit w j = go (dec_lt j (length (labels_ending rs w)))
      where
        go : Dec (j < length (labels_ending rs w)) → get_or (labels_ending rs w) j 0 < 65536
        go (yes h) = (label_range w j h).0
        go (no h) = rw (get_or-eq_default (labels_ending rs w) 0 {n = j} (omega arith)) (omega arith)

    -- The labels of a state are as an edition 2 table has them.
    labelled : (s : ℕ) → s < length (names rs) → Labelled two (labels_of s)
    labelled s hs =
        let w : List ℕ = get_or (names rs) s [] in
        record {
          few = A.few_labels s hs;
          above = λ j hj. let n = (label_range w j hj).1 in omega (arith, n);
          rises = rising_rises (labels_of s) (labels_rising rs w A.distinct);
        }

    -- Each next state is a state.
    next_below : (s c : ℕ) → next_of s c < length (names rs)
    next_below s c =
        number_of_below (longest_ending_of (names rs) (get_or (names rs) s [] ++ (get_or (byte_list rs) c 0 ∷ []))) (names rs)
        (longest_is_name rs A.some (get_or (names rs) s [] ++ (get_or (byte_list rs) c 0 ∷ [])))

    -- The table read back holds what it was made from.
    pub tabulated-reads : TableReads two (length (names rs)) (classes rs) 0 class_at labels_of next_of (tabulated b)
    unfolding tabulated table_of_rules
    tabulated-reads =
        made_reads two (length (names rs)) (classes rs) 0 class_at labels_of next_of
        (omega (arith, A.few_states)) (omega (arith, classes_most rs)) (omega arith) labelled (λ s hs. labels_fit (get_or (names rs) s []))
        (λ s c hs hc. omega (arith, next_below s c, A.few_states))

    -- So it has the classes, labels and rows of the rules.
    pub reads-rules : Reads rs (tabulated b)
    reads-rules =
        let R = tabulated-reads in
        record {
          classes_read = λ x hx. R.class_is x hx ∙ get_or-list 256 x (class_of rs) 0 hx;
          labels_read = R.labels_are;
          rows_read = R.next_is;
        }

    facts : AcceptedTable (tabulated b)
    unfolding table.labels
    facts =
        let t = tabulated b in
        let n = length (names rs) in
        let R = tabulated-reads in
        let N = R.states_is in
        let K = R.classes_is in
        record {
          some_states = omega (arith, (stands_start rs A.some).state_below);
          few_states = omega (arith, A.few_states);
          some_classes = omega (arith, class_below rs 0 (omega arith));
          few_classes = omega (arith, classes_most rs);
          long = R.long ∙ rw (behind_same t 262 (table.states t) n (table.edition t) two labels_of N R.edition_is R.labels_are, N, K) refl;
          begins = omega (arith, R.start_is, (stands_start rs A.some).state_below);
          all_classed =
              classed_same (classes rs) (table.classes t) class_at (table.class_of t) (sym K) R.class_is
              (record {
                below = λ x hx. rw (get_or-list 256 x (class_of rs) 0 hx) (class_below rs x hx);
                used = λ c hc. let (x, hx, e) = class_met rs c hc in (x, hx, get_or-list 256 x (class_of rs) 0 hx ∙ e);
              });
          all_labelled = λ s hs. let l : s < n = omega arith in labelled_same R.edition_is (R.labels_are s l) (labelled s l);
          inside = λ s c hs hc.
              let hs' : s < n = omega arith in
              let hc' : c < classes rs = omega arith in
              omega (arith, R.next_is s c hs' hc', next_below s c);
        }

    -- It is accepted.
    pub tabulated_accepted : judge_table_of (tabulated b) ≡ 0
    tabulated_accepted = table_accepted (tabulated b) facts

-- What strings leaves is the table of an accepted word list.
pub strings_leaves : (b room : List ℕ) → (strings b room).number ≡ 0 → (result (strings b room) ≡ tabulated b) × Accepted b
unfolding strings
strings_leaves b room e =
    let (g, q) = built-result (first (strings_grounds b (length room))) (tabulated b) room e in
    (q, listed b (length room) g)
