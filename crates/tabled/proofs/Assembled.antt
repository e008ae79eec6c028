-- The parts by the arrays that code holds are the table of the word list.
use mathlib.Core.Path.{◌≡◌, sym, ap, ap₂, ◌∙◌}
use mathlib.Core.List.{List, [], ◌∷◌, ◌++◌, append_assoc}
use Prim.Native.Nat.{ℕ, ◌+◌, ◌*◌, ◌≤◌, ◌<◌}
use native.Mathlib.Omega.{arith}
use lib.ListN.{length, get_or}
use Rattle.paper.specs.Below.{each, list, sum}
use Rattle.paper.specs.Words.{bytes16, all16}
use Rattle.paper.specs.Labels.{two}
use Rattle.paper.specs.Table.{table_length}
use Rattle.paper.specs.Results.{label_bytes_of, labels_held_of, table_from}
use Rattle.paper.specs.Strings.{Rule, rules, names, number_of, longest_ending_of, labels_ending, classes, class_of, byte_of, table_of_rules, tabulated}
use Rattle.paper.proofs.Below.{each_same}
use Rattle.paper.proofs.Filled.{Filled}
use Rattle.paper.proofs.Lists.{get_or-list}
use Rattle.paper.proofs.Sums.{sum_same}
use Rattle.trips.proofs.TableBytes.{made_length}
use Rattle.strings.proofs.Stands.{goes}
use Rattle.strings.proofs.ByteOf.{class_list, byte_list, byte_of_class}
use Rattle.strings.proofs.TooMany.{labels_counted}
use Rattle.strings.proofs.Spread.{spread, spread_read}
use Rattle.labelling.specs.Ended.{name_at, ended_by, labels_at}
use Rattle.tabled.specs.Sized.{Sized}
use Rattle.tableparts.specs.Pieces.{class_bytes, count_bytes_of, cell_bytes, row_bytes, assembled}

module _ {b starts : List ℕ} {m n k : ℕ} {from long counts : List ℕ} (S : Sized b starts m n k from long counts) where
  -- The rules.
  abbrev rs : List Rule
  rs = rules b

  -- The labels of a state.
  abbrev labels_of : ℕ → List ℕ
  labels_of s = labels_ending rs (get_or (names rs) s [])

  -- The next state of a state on a class.
  abbrev next_of : ℕ → ℕ → ℕ
  next_of s c = number_of (longest_ending_of (names rs) (get_or (names rs) s [] ++ (get_or (byte_list rs) c 0 ∷ []))) (names rs)

  -- The labels are those of all strings that end the state's name.
  labels_are : (s : ℕ) → s < n → labels_ending rs (name_at b from long s) ≡ labels_of s
  labels_are s h = ap (labels_ending rs) (sym (S.named s h))

  -- A count is how many they are.
  pub count_is : (s : ℕ) → s < n → get_or counts s 0 ≡ length (labels_of s)
  count_is s h =
      S.counted s h
      ∙ ap (λ (x : ℕ). ended_by b x from long s) S.begun.counted
      ∙ sym (labels_counted b (name_at b from long s))
      ∙ ap length (labels_are s h)

  -- The table by its numbers.
  abbrev made : List ℕ
  made = table_from two n k 0 (λ x. get_or (class_list rs) x 0) labels_of next_of

  made_same : made ≡ tabulated b
  unfolding tabulated table_of_rules
  made_same = ap₂ (λ (x y : ℕ). table_from two x y 0 (λ x. get_or (class_list rs) x 0) labels_of next_of) (sym S.states_are) S.classes_are

  -- The table is so long.
  pub tabulated_long : length (tabulated b) ≡ 262 + 2 * n + 2 * sum n (λ s. get_or counts s 0) + 2 * (n * k)
  unfolding labels_held_of
  tabulated_long =
      ap length (sym made_same)
      ∙ made_length two n k 0 (λ x. get_or (class_list rs) x 0) labels_of next_of
      ∙ ap (λ (x : ℕ). table_length n k x) (sym (sum_same n (λ s. get_or counts s 0) (λ s. length (labels_of s)) count_is))

module _ {b starts : List ℕ} {m n k : ℕ} {from long counts : List ℕ} (S : Sized b starts m n k from long counts) (few : n ≤ 512) (classes' rows : List ℕ) (C : Filled (class_of (rules b)) classes' 256)
    (R : (s x : ℕ) → s < n → x < 256 → get_or (spread classes' rows) (s * 256 + x) 0 ≡ goes (rules b) s x) where
  classes_same : class_bytes classes' ≡ list 256 (λ x. get_or (class_list (rules b)) x 0)
  classes_same =
      each_same 256 (λ x. get_or classes' x 0 ∷ []) (λ x. get_or (class_list (rules b)) x 0 ∷ [])
      (λ x h. ap (λ (y : ℕ). y ∷ []) (C x h ∙ sym (get_or-list 256 x (class_of (rules b)) 0 h)))

  counts_same : each n (count_bytes_of counts) ≡ each n (λ s. bytes16 (length (labels_of S s)))
  counts_same = each_same n (count_bytes_of counts) (λ s. bytes16 (length (labels_of S s))) (λ s h. ap bytes16 (count_is S s h))

  labels_same : each n (labels_at b from long) ≡ each n (λ s. all16 (labels_of S s))
  labels_same = each_same n (labels_at b from long) (λ s. all16 (labels_of S s)) (λ s h. ap all16 (labels_are S s h))

  -- On a class stands what stands on its first byte.
  cell_same : (s c : ℕ) → s < n → c < k → cell_bytes rows s c ≡ bytes16 (next_of S s c)
  cell_same s c hs hc =
      let h : c < classes (rules b) = omega (arith, S.classes_are) in
      let y = byte_of (class_list (rules b)) c in
      let (l, e) = byte_of_class (rules b) c h in
      ap bytes16
      (ap (λ (x : ℕ). get_or rows (s * 256 + x) 0) (sym (C y l ∙ e))
      ∙ sym (spread_read classes' rows s y (omega arith) l)
      ∙ R s y hs l
      ∙ ap (λ (x : ℕ). number_of (longest_ending_of (names (rules b)) (get_or (names (rules b)) s [] ++ (x ∷ []))) (names (rules b))) (sym (get_or-list (classes (rules b)) c (byte_of (class_list (rules b))) 0 h)))

  rows_same : each n (row_bytes rows k) ≡ each n (λ s. each k (λ c. bytes16 (next_of S s c)))
  rows_same =
      each_same n (row_bytes rows k) (λ s. each k (λ c. bytes16 (next_of S s c)))
      (λ s hs. each_same k (cell_bytes rows s) (λ c. bytes16 (next_of S s c)) (λ c hc. cell_same s c hs hc))

  -- So they are the table.
  pub assembled_is : assembled b from long n k classes' counts rows ≡ tabulated b
  unfolding assembled table_from label_bytes_of
  assembled_is =
      let first : List ℕ = bytes16 (32768 + n) in
      let tail : class_bytes classes' ++ (each n (count_bytes_of counts) ++ (each n (labels_at b from long) ++ each n (row_bytes rows k)))
      ≡ list 256 (λ x. get_or (class_list (rules b)) x 0) ++ ((each n (λ s. bytes16 (length (labels_of S s))) ++ each n (λ s. all16 (labels_of S s))) ++ each n (λ s. each k (λ c. bytes16 (next_of S s c)))) =
      ap₂ ◌++◌ classes_same
      (ap₂ ◌++◌ counts_same (ap₂ ◌++◌ labels_same rows_same)
      ∙ sym (append_assoc (each n (λ s. bytes16 (length (labels_of S s)))) (each n (λ s. all16 (labels_of S s))) (each n (λ s. each k (λ c. bytes16 (next_of S s c)))))) in
      three first (bytes16 k) (bytes16 0) _ ∙ ap (λ (l : List ℕ). first ++ (bytes16 k ++ (bytes16 0 ++ l))) tail ∙ made_same S
    where
      three : (p q r l : List ℕ) → (p ++ (q ++ r)) ++ l ≡ p ++ (q ++ (r ++ l))
      three p q r l = simp append_assoc
