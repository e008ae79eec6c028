-- The parts of the table as they are written, over plain values.
use mathlib.Core.Path.{◌≡◌, refl, sym, ap, ap₂, ◌∙◌}
use mathlib.Core.List.{List, ◌++◌, append_assoc}
use Prim.Native.Nat.{ℕ, ◌+◌, ◌*◌, ◌≤◌}
use native.Mathlib.Omega.{arith}
use borrow.Author.Rules.{rules}
use borrow.Rule.Slice.PartMut.{put_mid, post_of, mid_of}
use Rattle.std.proofs.lemmas.Slice.{overwrites}
use lib.ListN.{length, get_or, take, drop, length-append, length-drop}
use lib.Seq.{length-take-le, get_or-take, get_or-drop}
use Rattle.paper.specs.Below.{each, list}
use Rattle.paper.specs.Words.{bytes16, all16}
use Rattle.paper.proofs.Below.{each_same}
use Rattle.paper.proofs.Lists.{list-get_or, all16-each}
use Rattle.paper.specs.Operations.{filled}
use Rattle.trips.proofs.Spans.{length-each}
use Rattle.trips.proofs.Numbers.{length-words, length_bytes}
use Rattle.words.specs.Placed.{placed}
use Rattle.words.proofs.Placed.{placed-front}
use Rattle.words.proofs.Behind.{placed-behind}
use Rattle.labelling.specs.Ended.{labels_at}
use Rattle.tableparts.specs.Pieces.{head, class_bytes, count_bytes_of, row_bytes, assembled}

-- The classes of all bytes are written as they are.
pub classes_are : (classes : List ℕ) → length classes ≡ 256 → class_bytes classes ≡ classes
classes_are classes l = ap (λ (m : ℕ). list m (λ x. get_or classes x 0)) (sym l) ∙ list-get_or classes 0

-- The classes of all bytes, put in as they are.
pub classes_put : (room classes new : List ℕ) → length classes ≡ 256 → new ≡ classes → put_mid 6 256 room new ≡ placed room 6 (class_bytes classes)
unfolding placed
classes_put room classes new l e =
    let same = classes_are classes l in
    let rest : post_of 6 256 room ≡ drop 262 room = search (rules, overwrites) in
    let long : 6 + length (class_bytes classes) ≡ 262 = omega (arith, ap length same) in
    ap₂ (λ (m n : List ℕ). take 6 room ++ (m ++ n)) (e ∙ sym same) (rest ∙ ap (λ (i : ℕ). drop i room) (sym long))

-- The first so many numbers, written one after the other,
pub first_numbers : (xs : List ℕ) (n : ℕ) → n ≤ length xs → all16 (take n xs) ≡ each n (λ i. bytes16 (get_or xs i 0))
first_numbers xs n h =
    all16-each (take n xs)
    ∙ ap (λ (m : ℕ). each m (λ i. bytes16 (get_or (take n xs) i 0))) (length-take-le n xs h)
    ∙ each_same n (λ i. bytes16 (get_or (take n xs) i 0)) (λ i. bytes16 (get_or xs i 0)) (λ i l. ap bytes16 (get_or-take n xs i 0 l))

-- and those of a row.
pub row_numbers : (rows : List ℕ) (k s m : ℕ) → m ≡ k → s * 256 + k ≤ length rows → all16 (mid_of (s * 256) m rows) ≡ row_bytes rows k s
row_numbers rows k s m e h =
    let part = drop (s * 256) rows in
    let p : mid_of (s * 256) m rows ≡ take m part = search rules in
    rw (p, e) (
    first_numbers part k (omega (arith, length-drop (s * 256) rows))
    ∙ each_same k (λ i. bytes16 (get_or part i 0)) (λ i. bytes16 (get_or rows (s * 256 + i) 0)) (λ i l. ap bytes16 (get_or-drop (s * 256) rows i 0))
    )

-- They are so many.
pub row_long : (rows : List ℕ) (k s m : ℕ) → m ≡ k → s * 256 + k ≤ length rows → length (mid_of (s * 256) m rows) ≡ k
row_long rows k s m e h =
    let p : mid_of (s * 256) m rows ≡ take m (drop (s * 256) rows) = search rules in
    rw (p, e) (length-take-le k (drop (s * 256) rows) (omega (arith, length-drop (s * 256) rows)))

-- The head takes 6 bytes.
pub length-head : (n k : ℕ) → length (head n k) ≡ 6
unfolding bytes16
length-head n k = refl

-- The classes take 256.
pub length-classes : (classes : List ℕ) → length (class_bytes classes) ≡ 256
length-classes classes = length_bytes 256 (λ x. get_or classes x 0)

-- Two for each count.
pub length-counts : (counts : List ℕ) (n : ℕ) → length (each n (count_bytes_of counts)) ≡ 2 * n
length-counts counts n = length-words n (λ s. get_or counts s 0)

-- Two for each class in a row.
pub length-row : (rows : List ℕ) (k s : ℕ) → length (row_bytes rows k s) ≡ 2 * k
length-row rows k s = length-words k (λ c. get_or rows (s * 256 + c) 0)

-- So for all states.
pub length-rows : (rows : List ℕ) (k n : ℕ) → length (each n (row_bytes rows k)) ≡ 2 * (n * k)
length-rows rows k n = omega (arith, length-each (row_bytes rows k) (λ s. 2 * (s * k)) (λ s. omega (arith, length-row rows k s)) n)

module _ (b from long : List ℕ) (n k : ℕ) (classes counts rows : List ℕ) where
  -- All parts together.
  pub length-assembled : length (assembled b from long n k classes counts rows) ≡ 262 + 2 * n + length (each n (labels_at b from long)) + 2 * (n * k)
  unfolding assembled
  length-assembled =
      let a = head n k in
      let cs = class_bytes classes in
      let ns = each n (count_bytes_of counts) in
      let ls = each n (labels_at b from long) in
      let rs = each n (row_bytes rows k) in
      omega (
        arith,
        length-append a (cs ++ (ns ++ (ls ++ rs))),
        length-append cs (ns ++ (ls ++ rs)),
        length-append ns (ls ++ rs),
        length-append ls rs,
        length-head n k,
        length-classes classes,
        length-counts counts n,
        length-rows rows k n,
      )

  -- Written one behind the other they fill the room.
  pub emitted : (r₀ r₁ r₂ r₃ r₄ r₅ : List ℕ) (end : ℕ) → length (assembled b from long n k classes counts rows) ≤ length r₀
      → r₁ ≡ placed r₀ 0 (head n k) → r₂ ≡ placed r₁ 6 (class_bytes classes) → r₃ ≡ placed r₂ 262 (each n (count_bytes_of counts))
      → (end ≡ 262 + 2 * n + length (each n (labels_at b from long))) × (r₄ ≡ placed r₃ (262 + 2 * n) (each n (labels_at b from long)))
      → r₅ ≡ placed r₄ end (each n (row_bytes rows k)) → r₅ ≡ filled (assembled b from long n k classes counts rows) r₀
  unfolding assembled
  emitted r₀ r₁ r₂ r₃ r₄ r₅ end fits e₁ e₂ e₃ (far, e₄) e₅ =
      let a = head n k in
      let cs = class_bytes classes in
      let ns = each n (count_bytes_of counts) in
      let ls = each n (labels_at b from long) in
      let rs = each n (row_bytes rows k) in
      let l₁ = length-head n k in
      let l₂ : length (a ++ cs) ≡ 262 = omega (arith, length-append a cs, length-classes classes) in
      let l₃ : length ((a ++ cs) ++ ns) ≡ 262 + 2 * n = omega (arith, length-append (a ++ cs) ns, length-counts counts n) in
      let l₄ : length (((a ++ cs) ++ ns) ++ ls) ≡ end = omega (arith, length-append ((a ++ cs) ++ ns) ls) in
      let whole = length-assembled in
      placed-behind r₀ r₄ r₅ (((a ++ cs) ++ ns) ++ ls) rs 0 end (omega arith) (omega arith)
      (placed-behind r₀ r₃ r₄ ((a ++ cs) ++ ns) ls 0 (262 + 2 * n) (omega arith) (omega arith)
      (placed-behind r₀ r₂ r₃ (a ++ cs) ns 0 262 (omega arith) (omega arith)
      (placed-behind r₀ r₁ r₂ a cs 0 6 (omega arith) (omega arith) e₁ e₂) e₃) e₄) e₅
      ∙ ap (placed r₀ 0) (five a cs ns ls rs)
      ∙ placed-front r₀ (a ++ (cs ++ (ns ++ (ls ++ rs))))
    where
      five : (a b c d e : List ℕ) → (((a ++ b) ++ c) ++ d) ++ e ≡ a ++ (b ++ (c ++ (d ++ e)))
      five a b c d e = simp append_assoc
