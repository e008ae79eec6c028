-- The head, the labels in an edition and the rest, put one behind the other, are the image moved into that edition.
use mathlib.Core.Path.{◌≡◌, refl, sym, ap, ap₂, ◌∙◌}
use mathlib.Core.List.{List, ◌++◌, append_assoc}
use Prim.Native.Nat.{ℕ, ◌+◌, ◌*◌, ◌≤◌}
use native.Mathlib.Nat.{mul-le-mul}
use native.Mathlib.Omega.{arith}
use lib.ListN.{length, take, drop, length-append, length-drop}
use lib.Seq.{length-take-le}
use Rattle.paper.specs.Below.{each, list}
use Rattle.paper.specs.Words.{bytes16, bytes32, words, check_word_of, Bytes}
use Rattle.paper.specs.Labels.{Edition, first_word}
use Rattle.paper.specs.View.{View, depth_of}
use Rattle.paper.specs.Image as image
use Rattle.paper.specs.Image.{image_length_of, image_view}
use Rattle.paper.specs.Results.{label_bytes_of, labels_held_of, record_bytes, entry_bytes, front, trailer, parts, moved}
use Rattle.paper.specs.Operations.{filled}
use Rattle.paper.proofs.Labels.{behind_held}
use Rattle.facts.proofs.ImageFacts.{AcceptedImage}
use Rattle.trips.proofs.Spans.{spans_then, spans_move, part_taken, length-each, peel}
use Rattle.trips.proofs.Numbers.{length_bytes}
use Rattle.trips.proofs.LabelBytes.{length-labels}
use Rattle.trips.proofs.ImageParts.{total, record_place, row_place, record_wide, row_wide, end, Placed}
use Rattle.trips.proofs.Moved.{own-placed}
use Rattle.words.specs.Placed.{placed}
use Rattle.words.proofs.Behind.{placed-behind}
use Rattle.ending.proofs.Trailer.{length-trailer}
use Rattle.ending.proofs.Ended.{body, ended}
use Rattle.moves.specs.Pieces.{head, rows, finished}

-- Parts in other parentheses.
regroup : (w r c l x y t : List ℕ) → ((w ++ (r ++ c)) ++ l) ++ ((x ++ y) ++ t) ≡ (w ++ r) ++ (c ++ (l ++ (x ++ (y ++ t))))
regroup w r c l x y t = simp append_assoc

-- The first word, and behind it what is copied.
pub head_put : (b r₀ r₁ r₂ : List ℕ) (word : ℕ) → 268 ≤ length r₀ → r₁ ≡ placed r₀ 0 (bytes16 word) → r₂ ≡ placed r₁ 2 (take 266 (drop 2 b)) → r₂ ≡ placed r₀ 0 (head b word)
unfolding head bytes16
head_put b r₀ r₁ r₂ word h e₁ e₂ = placed-behind r₀ r₁ r₂ (bytes16 word) (take 266 (drop 2 b)) 0 2 refl (omega arith) e₁ e₂

-- What is copied behind the labels, the trailer and the check word.
pub rest_put : (b r₀ r₁ r₂ r₃ : List ℕ) (n m from held worst : ℕ) → image_length_of n m held ≤ length r₀ → from + (4 * n + 4 * m) ≤ length b → worst ≡ image.worst b
    → r₁ ≡ placed r₀ (268 + 2 * n + 2 * held) (take (4 * n + 4 * m) (drop from b))
    → r₂ ≡ placed r₁ (268 + 2 * n + 2 * held + (4 * n + 4 * m)) (trailer n m held worst)
    → r₃ ≡ placed r₂ (268 + 2 * n + 2 * held + (4 * n + 4 * m) + 10) (bytes16 (check_word_of (words (take (268 + 2 * n + 2 * held + (4 * n + 4 * m) + 10) r₂))))
    → r₃ ≡ finished b n m from held r₀
unfolding finished rows
rest_put b r₀ r₁ r₂ r₃ n m from held worst fits in_b W e₁ e₂ e₃ =
    let at = 268 + 2 * n + 2 * held in
    let count = 4 * n + 4 * m in
    let a = take count (drop from b) in
    let wide : length a ≡ count = length-take-le count (drop from b) (omega (arith, length-drop from b)) in
    let p = placed-behind r₀ r₁ r₂ a (trailer n m held worst) at (at + count) (omega arith) (omega arith) e₁ e₂ in
    e₃ ∙ (ap (λ (r : List ℕ). placed r (at + count + 10) (bytes16 (check_word_of (words (take (at + count + 10) r))))) (p ∙ ap (λ (w : ℕ). placed r₀ at (a ++ trailer n m held w)) W))

module _ (b : List ℕ) (B : Bytes b) (A : AcceptedImage b) where
  -- The view.
  abbrev v : View
  v = image_view b

  -- How many labels the image holds.
  abbrev pub old : ℕ
  old = labels_held_of (image.edition b) (image.states b) (image.labels b)

  -- They are those behind the counts.
  pub old-behind : image.behind b ≡ old
  unfolding image.labels
  old-behind = behind_held b 268 (image.states b) (image.edition b)

  -- There are at most 512 times 256 entries.
  pub entries_few : image.entries b ≤ 131072
  entries_few = omega (arith, A.not_many, mul-le-mul A.few_states A.few_classes)

  P : Placed (image.edition b) v (image.start b) (image.class_of b) (image.labels b) b
  P = own-placed b B A

  -- The front behind its first word.
  abbrev rest : List ℕ
  rest = bytes16 v.classes ++ (bytes16 (image.start b) ++ (bytes16 (depth_of v) ++ bytes32 (total v)))

  -- It stands before the classes.
  between : take 266 (drop 2 b) ≡ rest ++ list 256 (image.class_of b)
  unfolding front bytes16 bytes32
  between =
      let (_, q) = peel (bytes16 (first_word (image.edition b) (image.states b))) rest 2 P.at_front refl in
      part_taken 266 (spans_then q P.at_classes) (omega (arith, length-append rest (list 256 (image.class_of b)), length_bytes 256 (image.class_of b)))

  length_records : length (each v.states (record_bytes v)) ≡ 4 * image.states b
  length_records = omega (arith, length-each (record_bytes v) (record_place v old) (record_wide v old) v.states)

  length-entries : length (each v.states (entry_bytes v)) ≡ 4 * image.entries b
  length-entries = omega (arith, length-each (entry_bytes v) (row_place v old) (row_wide v old) v.states, A.stated.total)

  -- The records and entries stand behind the labels.
  rows_stand : (n m from : ℕ) → n ≡ image.states b → m ≡ image.entries b → from ≡ 268 + 2 * n + 2 * old → rows b n m from ≡ each v.states (record_bytes v) ++ each v.states (entry_bytes v)
  unfolding rows
  rows_stand n m from N M F =
      let begins : 268 + 2 * v.states + 2 * old ≡ from = omega arith in
      part_taken (4 * n + 4 * m) (spans_move (spans_then P.at_records P.at_entries) begins refl)
      (omega (arith, length-append (each v.states (record_bytes v)) (each v.states (entry_bytes v)), length_records, length-entries))

  module _ (e : Edition) (n m held from word : ℕ) (N : n ≡ image.states b) (M : m ≡ image.entries b) (H : held ≡ labels_held_of e (image.states b) (image.labels b))
      (F : from ≡ 268 + 2 * n + 2 * old) (W : word ≡ first_word e n) where
    -- The labels in the edition.
    abbrev labelled : List ℕ
    labelled = label_bytes_of e (image.states b) (image.labels b)

    head_is : head b word ≡ bytes16 (first_word e v.states) ++ (rest ++ list 256 (image.class_of b))
    unfolding head
    head_is = ap₂ ◌++◌ (ap bytes16 (W ∙ ap (first_word e) N)) between

    trailer_is : trailer n m held (image.worst b) ≡ end e v (image.start b) (image.class_of b) (image.labels b)
    trailer_is = rw (N, M ∙ sym A.stated.total, H, A.stated.far) refl

    body_is : (head b word ++ labelled) ++ (rows b n m from ++ trailer n m held (image.worst b)) ≡ body e v (image.start b) (image.class_of b) (image.labels b)
    unfolding parts front
    body_is =
        ap₂ ◌++◌ (ap (λ (l : List ℕ). l ++ labelled) head_is) (ap₂ ◌++◌ (rows_stand n m from N M F) trailer_is)
        ∙ regroup (bytes16 (first_word e v.states)) rest (list 256 (image.class_of b)) labelled (each v.states (record_bytes v)) (each v.states (entry_bytes v))
        (end e v (image.start b) (image.class_of b) (image.labels b))

    length-head : length (head b word) ≡ 268
    unfolding bytes16 bytes32
    length-head =
        ap length head_is ∙ omega (arith, length-append rest (list 256 (image.class_of b)), length_bytes 256 (image.class_of b))

    length-rows : length (rows b n m from) ≡ 4 * n + 4 * m
    length-rows =
        omega (arith, ap length (rows_stand n m from N M F), length-append (each v.states (record_bytes v)) (each v.states (entry_bytes v)), length_records, length-entries)

    -- Put one behind the other they are the image moved.
    pub moved-filled : (r₀ r₁ r₂ r₃ : List ℕ) → image_length_of n m held ≤ length r₀ → r₁ ≡ placed r₀ 0 (head b word) → r₂ ≡ placed r₁ 268 labelled → r₃ ≡ finished b n m from held r₂
        → r₃ ≡ filled (moved e b) r₀
    unfolding moved finished
    moved-filled r₀ r₁ r₂ r₃ fits e₁ e₂ e₃ =
        let t = trailer n m held (image.worst b) in
        let a = head b word in
        let c = rows b n m from ++ t in
        let at = 268 + 2 * n + 2 * held in
        let end = at + (4 * n + 4 * m) + 10 in
        let la = length-head in
        let ll : length labelled ≡ 2 * n + 2 * held = omega (arith, length-labels e (image.states b) (image.labels b)) in
        let lc : length c ≡ 4 * n + 4 * m + 10 = omega (arith, length-append (rows b n m from) t, length-rows, length-trailer n m held (image.worst b)) in
        let lal : length (a ++ labelled) ≡ at = omega (arith, length-append a labelled) in
        let all : length ((a ++ labelled) ++ c) ≡ end = omega (arith, length-append (a ++ labelled) c) in
        let q : r₂ ≡ placed r₀ 0 (a ++ labelled) = placed-behind r₀ r₁ r₂ a labelled 0 268 (omega arith) (omega arith) e₁ e₂ in
        let p : placed r₂ at c ≡ placed r₀ 0 (body e v (image.start b) (image.class_of b) (image.labels b)) =
        placed-behind r₀ r₂ (placed r₂ at c) (a ++ labelled) c 0 at (omega arith) (omega arith) q refl ∙ ap (placed r₀ 0) body_is in
        ended e v (image.start b) (image.class_of b) (image.labels b) r₀ (placed r₂ at c) r₃ end (ap length (sym body_is) ∙ all) (omega arith) p e₃
