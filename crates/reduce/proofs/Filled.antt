-- The front, the labels and the rows, put one behind the other, are the reduced table.
use mathlib.Core.Path.{◌≡◌, refl, sym, ap, ap₂, ◌∙◌}
use mathlib.Core.Bool.{true}
use mathlib.Core.List.{List, ◌++◌, append_assoc}
use Prim.Native.Nat.{ℕ, ◌+◌, ◌*◌, ◌≤◌, ◌<◌}
use native.Mathlib.Omega.{arith}
use lib.ListN.{length, get_or, take, drop, length-append}
use Rattle.paper.specs.Below.{each, list}
use Rattle.paper.specs.Words.{bytes16}
use Rattle.paper.specs.Labels.{first_word}
use Rattle.paper.specs.Table.{edition, states, classes, start, class_of, labels, next, table_length}
use Rattle.paper.specs.Results.{label_bytes_of, labels_held_of, table_from}
use Rattle.paper.specs.FallBack.{levels}
use Rattle.paper.specs.Reduce.{reached, reduced}
use Rattle.paper.specs.Operations.{filled}
use Rattle.paper.proofs.Below.{each_same}
use Rattle.paper.proofs.Labels.{held_same}
use Rattle.trips.proofs.Spans.{part_taken, length-each}
use Rattle.trips.proofs.Numbers.{back_bytes, length_bytes, length-words}
use Rattle.trips.proofs.LabelBytes.{length-labels}
use Rattle.trips.proofs.TableBytes.{made_length}
use Rattle.words.specs.Placed.{placed}
use Rattle.words.proofs.Placed.{placed-front}
use Rattle.words.proofs.Behind.{placed-behind}
use Rattle.facts.proofs.TableFacts.{AcceptedTable}
use Rattle.reduction.specs.Left as left
use Rattle.reduction.specs.Numbers.{Renumbers}
use Rattle.reduction.proofs.Reach.{closed, reached_below}
use Rattle.reduction.proofs.Renumbered.{left_le, old-reached}
use Rattle.reduction.proofs.LabelBytes.{labels_same}
use Rattle.reduce.specs.Pieces.{front, labels_of, goes_to, row_of}

-- The classes of a table, copied.
classes_copied : (t : List ℕ) → 262 ≤ length t → take 256 (drop 6 t) ≡ list 256 (class_of t)
classes_copied t h = part_taken 256 (back_bytes {b = t} 6 256 (class_of t) (omega arith) (λ x hx. refl)) (length_bytes 256 (class_of t))

-- Three words and the classes in other parentheses.
four : (a b c d : List ℕ) → ((a ++ b) ++ c) ++ d ≡ a ++ (b ++ (c ++ d))
four a b c d = simp append_assoc

-- Three words and the classes, put one behind the other, are the front.
pub front_put : (t : List ℕ) (first k count st : ℕ) (r₀ r₁ r₂ r₃ r₄ : List ℕ) → first ≡ first_word (edition t) count → k ≡ classes t → 262 ≤ length t → 262 ≤ length r₀
    → r₁ ≡ placed r₀ 0 (bytes16 first) → r₂ ≡ placed r₁ 2 (bytes16 k) → r₃ ≡ placed r₂ 4 (bytes16 st) → r₄ ≡ placed r₃ 6 (take 256 (drop 6 t))
    → r₄ ≡ placed r₀ 0 (front t count st)
unfolding front bytes16
front_put t first k count st r₀ r₁ r₂ r₃ r₄ F K long fits e₁ e₂ e₃ e₄ =
    let a = bytes16 (first_word (edition t) count) in
    let b = bytes16 (classes t) in
    let c = bytes16 st in
    let d = list 256 (class_of t) in
    placed-behind r₀ r₃ r₄ ((a ++ b) ++ c) d 0 6 refl (omega arith)
    (placed-behind r₀ r₂ r₃ (a ++ b) c 0 4 refl (omega arith)
    (placed-behind r₀ r₁ r₂ a b 0 2 refl (omega arith) (e₁ ∙ ap (λ (x : ℕ). placed r₀ 0 (bytes16 x)) F) (e₂ ∙ ap (λ (x : ℕ). placed r₁ 2 (bytes16 x)) K)) e₃)
    (e₄ ∙ ap (placed r₃ 6) (classes_copied t long))
    ∙ ap (placed r₀ 0) (four a b c d)

-- The front takes 262 bytes.
length_front : (t : List ℕ) (count st : ℕ) → length (front t count st) ≡ 262
unfolding front bytes16
length_front t count st = omega (arith, length_bytes 256 (class_of t))

-- A row takes two bytes for each class.
pub length-row : (t name rank : List ℕ) (k x : ℕ) → length (row_of t name rank k x) ≡ 2 * k
length-row t name rank k x = length-words k (goes_to t name rank x)

-- So many rows take so many times as much.
pub length-rows : (t name rank old : List ℕ) (k n : ℕ) → length (each n (λ s. row_of t name rank k (get_or old s 0))) ≡ 2 * (n * k)
length-rows t name rank old k n =
    omega (arith, length-each (λ s. row_of t name rank k (get_or old s 0)) (λ i. 2 * (i * k)) (λ i. omega (arith, length-row t name rank k (get_or old i 0))) n)

-- The labels and rows behind the front in other parentheses.
regroup : (a b c d ls rows : List ℕ) → ((a ++ (b ++ (c ++ d))) ++ ls) ++ rows ≡ a ++ (b ++ (c ++ (d ++ (ls ++ rows))))
regroup a b c d ls rows = simp append_assoc

module _ (t name rank old : List ℕ) (count : ℕ) (A : AcceptedTable t) (R : Renumbers t name rank old count) where
  -- At most 512 states are left.
  pub few_left : count ≤ 512
  few_left = omega (arith, R.left_are, left_le t (levels t), A.few_states)

  -- An old state is reached.
  old_in : (s : ℕ) → s < count → reached t (levels t) (left.old t (levels t) s) ≡ true
  old_in s h = old-reached t (levels t) (closed t A) s (omega (arith, R.left_are))

  -- So it is a state.
  pub old_below : (s : ℕ) → s < count → get_or old s 0 < states t
  old_below s h = omega (arith, R.olds_are s h, reached_below t (left.old t (levels t) s) (old_in s h))

  -- Its next state has a name.
  pub next_named : (s c : ℕ) → s < count → c < classes t → get_or name (next t (get_or old s 0) c) 0 < 512
  next_named s c h hc =
      let q : next t (left.old t (levels t) s) c ≡ next t (get_or old s 0) c = ap (λ (x : ℕ). next t x c) (sym (R.olds_are s h)) in
      omega (arith, A.few_states, ap (λ (x : ℕ). get_or name x 0) q, R.names_below (next t (left.old t (levels t) s) c) ((closed t A).step (left.old t (levels t) s) c hc (old_in s h)))

  -- The labels are those of the states left.
  labels_are : (s : ℕ) → s < count → left.new_labels t (levels t) s ≡ labels_of t old s
  labels_are s h = ap (labels t) (sym (R.olds_are s h))

  -- The rows are theirs.
  goes_are : (s c : ℕ) → s < count → c < classes t → left.new_next t (levels t) s c ≡ goes_to t name rank (get_or old s 0) c
  goes_are s c h hc =
      let x = left.old t (levels t) s in
      sym (R.new_are (next t x c) ((closed t A).step x c hc (old_in s h))) ∙ ap (λ (y : ℕ). goes_to t name rank y c) (sym (R.olds_are s h))

  -- The rows of the states left.
  abbrev rows : ℕ → List ℕ
  rows k = each count (λ s. row_of t name rank k (get_or old s 0))

  -- They are the parts of the reduced table.
  parts_are : (k st : ℕ) → k ≡ classes t → st ≡ left.new t (levels t) (start t) → (front t count st ++ label_bytes_of (edition t) count (labels_of t old)) ++ rows k ≡ reduced t
  unfolding reduced table_from front
  parts_are k st K S =
      let e = edition t in
      let n = left.left t (levels t) in
      let ls = label_bytes_of e count (labels_of t old) in
      regroup (bytes16 (first_word e count)) (bytes16 (classes t)) (bytes16 st) (list 256 (class_of t)) ls (rows k)
      ∙ ap₂ (λ (l r : List ℕ). bytes16 (first_word e count) ++ (bytes16 (classes t) ++ (bytes16 st ++ (list 256 (class_of t) ++ (l ++ r)))))
      (sym (labels_same e count (left.new_labels t (levels t)) (labels_of t old) labels_are))
      (ap (λ (m : ℕ). each count (λ s. row_of t name rank m (get_or old s 0))) K
      ∙ sym (each_same count (λ s. each (classes t) (λ c. bytes16 (left.new_next t (levels t) s c))) (λ s. row_of t name rank (classes t) (get_or old s 0))
      (λ s h. each_same (classes t) (λ c. bytes16 (left.new_next t (levels t) s c)) (λ c. bytes16 (goes_to t name rank (get_or old s 0) c)) (λ c hc. ap bytes16 (goes_are s c h hc)))))
      ∙ rw (R.left_are, S) refl

  module _ (k held : ℕ) (K : k ≡ classes t) (H : held ≡ labels_held_of (edition t) count (labels_of t old)) where
    -- The reduced table is as long as its counts say.
    pub reduced_long : length (reduced t) ≡ table_length count k held
    unfolding reduced
    reduced_long =
        made_length (edition t) (left.left t (levels t)) (classes t) (left.new t (levels t) (start t)) (class_of t) (left.new_labels t (levels t)) (left.new_next t (levels t))
        ∙ rw (← R.left_are, ← K) (ap (λ (m : ℕ). table_length count k m) (held_same (edition t) count (left.new_labels t (levels t)) (labels_of t old) labels_are ∙ sym H))

    -- Put one behind the other they are the reduced table.
    pub reduced-filled : (st : ℕ) (r₀ r₁ r₂ r₃ : List ℕ) → st ≡ left.new t (levels t) (start t) → table_length count k held ≤ length r₀ → r₁ ≡ placed r₀ 0 (front t count st)
        → r₂ ≡ placed r₁ 262 (label_bytes_of (edition t) count (labels_of t old)) → r₃ ≡ placed r₂ (262 + 2 * count + 2 * held) (rows k) → r₃ ≡ filled (reduced t) r₀
    reduced-filled st r₀ r₁ r₂ r₃ S fits e₁ e₂ e₃ =
        let a = front t count st in
        let ls = label_bytes_of (edition t) count (labels_of t old) in
        let la = length_front t count st in
        let ll = length-labels (edition t) count (labels_of t old) in
        placed-behind r₀ r₂ r₃ (a ++ ls) (rows k) 0 (262 + 2 * count + 2 * held) (omega (arith, length-append a ls)) (omega arith)
        (placed-behind r₀ r₁ r₂ a ls 0 262 (omega arith) (omega arith) e₁ e₂) e₃
        ∙ ap (placed r₀ 0) (parts_are k st K S)
        ∙ placed-front r₀ (reduced t)
