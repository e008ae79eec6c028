-- Parts of a list of bytes: that a part stands in it from one place up to another, parts behind one another, and rows of parts.
use mathlib.Core.Path.{◌≡◌, refl, sym, ap, ◌∙◌}
use mathlib.Core.List.{List, ◌++◌, append_assoc, append-nil}
use Prim.Native.Nat.{ℕ, zero, suc, ◌+◌, ◌≤◌, ◌<◌}
use native.Mathlib.Nat.{not-suc-le-zero}
use native.Mathlib.Decide.{ℕ_discrete}
use native.Mathlib.Omega.{arith}
use lib.ListN.{length, take, drop, length-append, length-drop}
use lib.Seq.{drop-drop, take_at, drop_at, drop-length}
use Rattle.paper.specs.Below.{each}

-- The part stands in b from one place up to another.
pub record Spans (b : List ℕ) (from : ℕ) (part : List ℕ) (to : ℕ) : Type 0 where
  pub cut : drop from b ≡ part ++ drop to b

-- The whole list stands from its beginning to its end.
pub spans_all : (b : List ℕ) → Spans b 0 b (length b)
spans_all b = record { cut = rw (drop-length b, append-nil) refl }

-- What stands so is the whole list.
pub spans_whole : {b f : List ℕ} → Spans b 0 f (length b) → b ≡ f
spans_whole {b} h = h.cut ∙ rw (drop-length b, append-nil) refl

-- The same places by other names.
pub spans_move : {b f : List ℕ} {x z x' z' : ℕ} → Spans b x f z → x ≡ x' → z ≡ z' → Spans b x' f z'
spans_move h e e' = rw (← e, ← e') h

-- Two parts, one behind the other, are one part.
pub spans_then : {b f g : List ℕ} {x y z : ℕ} → Spans b x f y → Spans b y g z → Spans b x (f ++ g) z
spans_then {b} {f} {g} {z} p q = record { cut = p.cut ∙ ap (λ (l : List ℕ). f ++ l) q.cut ∙ sym (append_assoc f g (drop z b)) }

-- What stands behind a part begins where the part ends.
behind : (b f r : List ℕ) (x y : ℕ) → drop x b ≡ f ++ r → x + length f ≡ y → drop y b ≡ r
behind b f r x y e h = ap (λ (y : ℕ). drop y b) (sym h) ∙ sym (drop-drop (length f) x b) ∙ ap (drop (length f)) e ∙ drop_at f r (length f) refl

-- A part ends as far on as it is long.
spans_to : {b : List ℕ} (f : List ℕ) {x z : ℕ} (y : ℕ) → Spans b x f z → x + length f ≡ y → Spans b x f y
spans_to {b} f {x} {z} y h e = record { cut = h.cut ∙ ap (λ (l : List ℕ). f ++ l) (sym (behind b f (drop z b) x y h.cut e)) }

-- One part of two, one behind the other.
pub peel : {b : List ℕ} (f g : List ℕ) {x z : ℕ} (y : ℕ) → Spans b x (f ++ g) z → x + length f ≡ y → (Spans b x f y) × (Spans b y g z)
peel {b} f g {x} {z} y h e =
    let w : drop x b ≡ f ++ (g ++ drop z b) = h.cut ∙ append_assoc f g (drop z b) in
    let r : drop y b ≡ g ++ drop z b = behind b f (g ++ drop z b) x y w e in
    (record { cut = w ∙ ap (λ (l : List ℕ). f ++ l) (sym r) }, record { cut = r })

-- So many bytes from a place on are the part that stands there, if it is so long.
pub part_taken : {b part : List ℕ} {x z : ℕ} (w : ℕ) → Spans b x part z → length part ≡ w → take w (drop x b) ≡ part
part_taken {b} {part} {z} w h e = ap (take w) h.cut ∙ take_at part (drop z b) w e

-- A part from the beginning is the list's beginning.
pub spans_take : {b f : List ℕ} {z : ℕ} → Spans b 0 f z → z ≤ length b → take z b ≡ f
spans_take {b} {f} {z} h hz =
    ap (take z) h.cut ∙ take_at f (drop z b) z (omega (arith, ap length h.cut ∙ length-append f (drop z b), length-drop z b))

-- Where a part that is not empty ends at the list's end, the list is as long as what stands before it and the part.
pub spans_long : {b f : List ℕ} {x : ℕ} → Spans b x f (length b) → 0 < length f → x + length f ≡ length b
spans_long {b} {f} {x} h l =
    omega (arith, sym (length-drop x b) ∙ ap length h.cut ∙ length-append f (drop (length b) b), length-drop (length b) b)

-- A row of parts, of which part i begins at the place `at i`.
module _ (f : ℕ → List ℕ) (at : ℕ → ℕ) where
  -- Parts behind one another are a row.
  pub spans_each : {b : List ℕ} (n : ℕ) → ((i : ℕ) → i < n → Spans b (at i) (f i) (at (suc i))) → Spans b (at 0) (each n f) (at n)
  spans_each {b} zero h = record { cut = refl }
  spans_each (suc n) h = spans_then (spans_each n (λ i hi. h i (omega arith))) (h n (omega arith))

  module _ (wide : (i : ℕ) → at i + length (f i) ≡ at (suc i)) where
    -- A row is as long as its parts.
    pub length-each : (n : ℕ) → at 0 + length (each n f) ≡ at n
    length-each zero = omega arith
    length-each (suc n) = omega (arith, length-append (each n f) (f n), length-each n, wide n)

    -- Each part of a row stands in its place.
    pub spans_part : {b : List ℕ} {z : ℕ} (n i : ℕ) → Spans b (at 0) (each n f) z → i < n → Spans b (at i) (f i) (at (suc i))
    spans_part zero i h hi = absurd (not-suc-le-zero hi)
    spans_part {b} {z} (suc n) i h hi =
        let (before, last) = peel (each n f) (f n) (at n) h (length-each n) in
        go (ℕ_discrete i n) (spans_to (f n) (at (suc n)) last (wide n)) (spans_part {z = at n} n i before)
      where
        go : Dec (i ≡ n) → Spans b (at n) (f n) (at (suc n)) → (i < n → Spans b (at i) (f i) (at (suc i))) → Spans b (at i) (f i) (at (suc i))
        go (yes e) last ih = rw e last
        go (no e) last ih = ih (omega arith)
