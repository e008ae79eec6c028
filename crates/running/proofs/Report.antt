-- The bytes of reports: how many they are, and how they are placed one behind the other.
use mathlib.Core.Path.{◌≡◌, refl, sym, ap, ◌∙◌}
use mathlib.Core.List.{List, [], ◌∷◌, ◌++◌, append_assoc}
use Prim.Native.Nat.{ℕ, ◌+◌, ◌*◌, ◌≤◌}
use native.Mathlib.Numerals.{add-one}
use native.Mathlib.Omega.{arith}
use lib.ListN.{length}
use Rattle.paper.specs.Words.{number16, bytes16, bytes32}
use Rattle.paper.specs.Scan.{report_bytes}
use Rattle.paper.proofs.Lists.{length-list}
use Rattle.words.specs.Placed.{placed}
use Rattle.words.proofs.Placed.{placed_then}
use Rattle.labels.specs.Tags.{numbers_from}

-- A report has 6 bytes.
pub reports_length : (offset : ℕ) (ls : List ℕ) → length (report_bytes offset ls) ≡ 6 * length ls
unfolding bytes32 bytes16
reports_length offset [] = refl
reports_length offset (l ∷ ls) = omega (arith, reports_length offset ls)

-- The offset and behind it the label make a report.
pub report_placed : (room half whole : List ℕ) (at offset label : ℕ) → at + 6 ≤ length room → half ≡ placed room at (bytes32 offset) → whole ≡ placed half (at + 4) (bytes16 label)
    → whole ≡ placed room at (report_bytes offset (label ∷ []))
unfolding bytes32 bytes16
report_placed room half whole at offset label h e q = q ∙ rw e (placed_then room at (bytes32 offset) (at + 4) refl (omega arith) (bytes16 label))

-- Reports of two lists stand one behind the other.
reports_append : (offset : ℕ) (ls ms : List ℕ) → report_bytes offset (ls ++ ms) ≡ report_bytes offset ls ++ report_bytes offset ms
reports_append offset [] ms = refl
reports_append offset (l ∷ ls) ms =
    ap (λ (rest : List ℕ). bytes32 offset ++ (bytes16 l ++ rest)) (reports_append offset ls ms)
    ∙ ap (λ (rest : List ℕ). bytes32 offset ++ rest) (sym (append_assoc (bytes16 l) (report_bytes offset ls) (report_bytes offset ms)))
    ∙ sym (append_assoc (bytes32 offset) (bytes16 l ++ report_bytes offset ls) (report_bytes offset ms))

-- Those of so many labels from a place on have 6 bytes each.
numbers-length : (b : List ℕ) (offset from j : ℕ) → length (report_bytes offset (numbers_from b from j)) ≡ 6 * j
numbers-length b offset from j = reports_length offset (numbers_from b from j) ∙ ap (λ (x : ℕ). 6 * x) (length-list j (λ i. number16 b (from + 2 * i)))

-- One report more behind those of j labels that stand from a place on.
pub report_more : (room₀ room room' b : List ℕ) (at offset from label j : ℕ) → at + 6 * (j + 1) ≤ length room₀ → room ≡ placed room₀ at (report_bytes offset (numbers_from b from j))
    → label ≡ number16 b (from + 2 * j) → room' ≡ placed room (at + 6 * j) (report_bytes offset (label ∷ [])) → room' ≡ placed room₀ at (report_bytes offset (numbers_from b from (j + 1)))
report_more room₀ room room' b at offset from label j h e l d =
    let before = report_bytes offset (numbers_from b from j) in
    let size = numbers-length b offset from j in
    let all : numbers_from b from j ++ (label ∷ []) ≡ numbers_from b from (j + 1) = rw (l, add-one j) in
    d ∙ ap (λ (x : List ℕ). placed x (at + 6 * j) (report_bytes offset (label ∷ []))) e
    ∙ placed_then room₀ at before (at + 6 * j) (omega arith) (omega (arith, reports_length offset (label ∷ []))) (report_bytes offset (label ∷ []))
    ∙ ap (placed room₀ at) (sym (reports_append offset (numbers_from b from j) (label ∷ [])) ∙ ap (report_bytes offset) all)
