-- The pieces of an image as they are written: the classes and labels copied from the table, the records, and an entry that is kept or passed.
use mathlib.Core.Path.{◌≡◌, refl, sym, ap, ◌∙◌}
use mathlib.Core.Bool.{Bool, true, false, cond}
use mathlib.Core.List.{List, [], ◌++◌}
use Prim.Native.Nat.{ℕ, ◌+◌, ◌*◌, ◌≤◌}
use native.Mathlib.Omega.{arith}
use lib.ListN.{length, take, drop, length-append}
use Rattle.paper.specs.Below.{each, list}
use Rattle.paper.specs.Words.{bytes16, Bytes}
use Rattle.paper.specs.Table.{edition, states, class_of, labels, behind, next}
use Rattle.paper.specs.Image.{default_from_of}
use Rattle.paper.specs.Results.{label_bytes_of}
use Rattle.paper.proofs.Labels.{behind_held}
use Rattle.trips.proofs.Spans.{spans_then, part_taken, length-each}
use Rattle.trips.proofs.Numbers.{back_bytes, length_bytes}
use Rattle.trips.proofs.LabelBytes.{back-labels, length-labels}
use Rattle.words.specs.Placed.{placed}
use Rattle.words.proofs.Placed.{placed_nothing}
use Rattle.tally.specs.Kept.{kept}
use Rattle.build.specs.Pieces.{classes_and_labels, listed_record, kept_entry}

-- The classes and labels take 256 bytes, two for each state, and two for each label behind the counts.
pub length-labelled : (t : List ℕ) → length (classes_and_labels t) ≡ 256 + 2 * states t + 2 * behind t
unfolding classes_and_labels labels
length-labelled t =
    omega (arith, length-append (list 256 (class_of t)) (label_bytes_of (edition t) (states t) (labels t)), length_bytes 256 (class_of t), length-labels (edition t) (states t) (labels t), behind_held t 262 (states t) (edition t))

-- They stand behind the first 6 bytes of a table.
pub labels_copied : (t : List ℕ) (n held : ℕ) → Bytes t → n ≡ states t → held ≡ behind t → 262 + 2 * n + 2 * held ≤ length t
    → take (256 + 2 * n + 2 * held) (drop 6 t) ≡ classes_and_labels t
unfolding classes_and_labels labels
labels_copied t n held B N H h =
    part_taken (256 + 2 * n + 2 * held)
    (spans_then (back_bytes {b = t} 6 256 (class_of t) (omega arith) (λ x hx. refl))
    (back-labels {b = t} 262 (states t) (labels t) (edition t) B (omega (arith, behind_held t 262 (states t) (edition t))) (λ s hs. refl)))
    (omega (arith, length-labelled t))

-- A record takes 4 bytes.
pub length_record : (def counts : List ℕ) (s : ℕ) → length (listed_record def counts s) ≡ 4
unfolding bytes16
length_record def counts s = refl

-- So n of them take 4n.
pub length_records : (def counts : List ℕ) (n : ℕ) → length (each n (listed_record def counts)) ≡ 4 * n
length_records def counts n = omega (arith, length-each (listed_record def counts) (λ i. 4 * i) (λ i. omega (arith, length_record def counts i)) n)

module _ (t : List ℕ) (d s c : ℕ) (b : Bool) (e : b ≡ kept t s c (default_from_of d)) where
  -- The entry of a class that is kept.
  entry_kept : b ≡ true → kept_entry t d s c ≡ bytes16 c ++ bytes16 (next t s c)
  entry_kept y = ap (λ (b : Bool). cond b (bytes16 c ++ bytes16 (next t s c)) []) (sym e ∙ y)

  -- It takes 4 bytes.
  pub length-kept : b ≡ true → length (kept_entry t d s c) ≡ 4
  unfolding bytes16
  length-kept y = ap length (entry_kept y)

  -- An entry that is kept is placed as class and next state.
  pub entry_placed : (room now : List ℕ) (at x : ℕ) → b ≡ true → x ≡ next t s c → now ≡ placed room at (bytes16 c ++ bytes16 x)
      → (at + 4 ≡ at + length (kept_entry t d s c)) × (now ≡ placed room at (kept_entry t d s c))
  entry_placed room now at x y w q = (omega (arith, length-kept y), rw (entry_kept y) (rw (← w) q))

  -- Of a class that is not kept nothing is placed.
  pub entry_passed : (room : List ℕ) (at : ℕ) → b ≡ false → (at ≡ at + length (kept_entry t d s c)) × (room ≡ placed room at (kept_entry t d s c))
  entry_passed room at y =
      let w : kept_entry t d s c ≡ [] = ap (λ (b : Bool). cond b (bytes16 c ++ bytes16 (next t s c)) []) (sym e ∙ y) in
      rw w (omega arith, sym (placed_nothing room at))
