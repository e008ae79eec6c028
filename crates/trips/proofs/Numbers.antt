-- Numbers in a list of bytes: a number that stands there is read, and where it is read it stands.
use mathlib.Core.Path.{◌≡◌, refl, sym, ap, ◌∙◌}
use mathlib.Core.List.{List, [], ◌∷◌, ◌++◌}
use Prim.Native.Nat.{ℕ, suc, ◌+◌, ◌*◌, ◌/◌, ◌%◌, ◌≤◌, ◌<◌}
use native.Mathlib.Nat.{add-zero}
use native.Mathlib.Numerals.{add-one}
use native.Mathlib.Omega.{arith}
use lib.ListN.{length, drop}
use lib.Seq.{drop-cons, get_or-drop}
use Rattle.paper.specs.Below.{each, list}
use Rattle.paper.specs.Words.{byte_at, number16, number32, bytes16, bytes32, Bytes}
use Rattle.paper.proofs.Words.{number16_below}
use Rattle.trips.proofs.Spans.{Spans, spans_move, spans_then, spans_each, spans_part, length-each, peel}

-- The byte i places behind a place is byte i of what stands there.
byte_behind : (b : List ℕ) (x i : ℕ) → byte_at b (x + i) ≡ byte_at (drop x b) i
byte_behind b x i = sym (get_or-drop x b i 0)

-- A byte that stands at a place is read there.
read8 : {b : List ℕ} {x z v : ℕ} → Spans b x (v ∷ []) z → byte_at b x ≡ v
read8 {b} {x} h = ap (byte_at b) (sym (add-zero x)) ∙ byte_behind b x 0 ∙ ap (λ (l : List ℕ). byte_at l 0) h.cut

-- A number of 16 bits that stands at a place is read there.
pub read16 : {b : List ℕ} {x z : ℕ} (v : ℕ) → Spans b x (bytes16 v) z → v < 65536 → number16 b x ≡ v
unfolding bytes16 number16
read16 {b} {x} v h small =
    let (p, q) = peel (v % 256 ∷ []) (v / 256 % 256 ∷ []) (x + 1) h refl in
    rw (read8 p, read8 q) (omega arith)

-- So is one of 32 bits.
pub read32 : {b : List ℕ} {x z : ℕ} (v : ℕ) → Spans b x (bytes32 v) z → v < 4294967296 → number32 b x ≡ v
unfolding bytes32 number32 bytes16
read32 {b} {x} v h small =
    let (p, q) = peel (bytes16 (v % 65536)) (bytes16 (v / 65536)) (x + 2) h refl in
    rw (read16 (v % 65536) p (omega arith), read16 (v / 65536) q (omega arith)) (omega arith)

-- So are two numbers of 16 bits, one behind the other.
pub read_pair : {b : List ℕ} {x z : ℕ} (u v : ℕ) → Spans b x (bytes16 u ++ bytes16 v) z → u < 65536 → v < 65536 → (number16 b x ≡ u) × (number16 b (x + 2) ≡ v)
unfolding bytes16
read_pair {x} u v h hu hv = let (p, q) = peel (bytes16 u) (bytes16 v) (x + 2) h refl in (read16 u p hu, read16 v q hv)

-- Rows from a place on.
module _ {b : List ℕ} {at z : ℕ} (n : ℕ) (f : ℕ → ℕ) where
  -- Each byte of a row is read in its place.
  pub read_bytes : Spans b at (list n f) z → (i : ℕ) → i < n → byte_at b (at + i) ≡ f i
  read_bytes h i hi = read8 (spans_part (λ i. f i ∷ []) (λ i. at + i) (λ i. omega arith) n i (spans_move h (sym (add-zero at)) refl) hi)

  -- So is each number of a row of numbers of 16 bits.
  pub read_words : Spans b at (each n (λ i. bytes16 (f i))) z → (i : ℕ) → i < n → f i < 65536 → number16 b (at + 2 * i) ≡ f i
  unfolding bytes16
  read_words h i hi small = read16 (f i) (spans_part (λ i. bytes16 (f i)) (λ i. at + 2 * i) (λ i. omega arith) n i (spans_move h (sym (add-zero at)) refl) hi) small

-- A row of n bytes has n bytes.
pub length_bytes : (n : ℕ) (f : ℕ → ℕ) → length (list n f) ≡ n
length_bytes n f = omega (arith, length-each (λ i. f i ∷ []) (λ i. i) (λ i. omega arith) n)

-- A row of n numbers of 16 bits has 2n bytes.
pub length-words : (n : ℕ) (f : ℕ → ℕ) → length (each n (λ i. bytes16 (f i))) ≡ 2 * n
unfolding bytes16
length-words n f = omega (arith, length-each (λ i. bytes16 (f i)) (λ i. 2 * i) (λ i. omega arith) n)

-- A byte stands where it is read.
back8 : {b : List ℕ} {v : ℕ} (x z : ℕ) → x + 1 ≡ z → z ≤ length b → byte_at b x ≡ v → Spans b x (v ∷ []) z
back8 {b} x z e h q = rw (← q, ← e, add-one x) (record { cut = drop-cons b x 0 (omega arith) })

-- A row of bytes stands where it is read.
pub back_bytes : {b : List ℕ} (at n : ℕ) (f : ℕ → ℕ) → at + n ≤ length b → ((i : ℕ) → i < n → byte_at b (at + i) ≡ f i) → Spans b at (list n f) (at + n)
back_bytes {b} at n f h q =
    let one : (i : ℕ) → i < n → Spans b (at + i) (f i ∷ []) (at + suc i) = λ i hi. back8 (at + i) (at + suc i) (omega arith) (omega arith) (q i hi) in
    spans_move (spans_each (λ i. f i ∷ []) (λ i. at + i) n one) (add-zero at) refl

module _ {b : List ℕ} (B : Bytes b) where
  -- In a list of bytes a number of 16 bits stands where it is read.
  pub back16 : {v : ℕ} (x z : ℕ) → x + 2 ≡ z → z ≤ length b → number16 b x ≡ v → Spans b x (bytes16 v) z
  unfolding bytes16 number16
  back16 {v} x z e h q =
      let lo : byte_at b x ≡ v % 256 = omega (arith, B x) in
      let up : v / 256 ≡ byte_at b (x + 1) = omega (arith, B x) in
      let hi : byte_at b (x + 1) ≡ v / 256 % 256 = rw up (omega (arith, B (x + 1))) in
      spans_then (back8 x (x + 1) refl (omega arith) lo) (back8 (x + 1) z (omega arith) h hi)

  -- So does one of 32 bits.
  pub back32 : {v : ℕ} (x z : ℕ) → x + 4 ≡ z → z ≤ length b → number32 b x ≡ v → Spans b x (bytes32 v) z
  unfolding bytes32 number32
  back32 {v} x z e h q =
      let lo : number16 b x ≡ v % 65536 = omega (arith, number16_below b x B) in
      let hi : number16 b (x + 2) ≡ v / 65536 = omega (arith, number16_below b x B) in
      spans_then (back16 x (x + 2) refl (omega arith) lo) (back16 (x + 2) z (omega arith) h hi)

  -- So do two numbers of 16 bits, one behind the other.
  pub back_pair : {u v : ℕ} (x z : ℕ) → x + 4 ≡ z → z ≤ length b → number16 b x ≡ u → number16 b (x + 2) ≡ v → Spans b x (bytes16 u ++ bytes16 v) z
  back_pair x z e h p q = spans_then (back16 x (x + 2) refl (omega arith) p) (back16 (x + 2) z (omega arith) h q)

  -- So does a row of numbers of 16 bits.
  pub back-words : (at n : ℕ) (f : ℕ → ℕ) → at + 2 * n ≤ length b → ((i : ℕ) → i < n → number16 b (at + 2 * i) ≡ f i)
      → Spans b at (each n (λ i. bytes16 (f i))) (at + 2 * n)
  back-words at n f h q =
      let one : (i : ℕ) → i < n → Spans b (at + 2 * i) (bytes16 (f i)) (at + 2 * suc i) = λ i hi. back16 (at + 2 * i) (at + 2 * suc i) (omega arith) (omega arith) (q i hi) in
      spans_move (spans_each (λ i. bytes16 (f i)) (λ i. at + 2 * i) n one) (add-zero at) refl
