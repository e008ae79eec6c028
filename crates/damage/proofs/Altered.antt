-- What one byte altered does to the sum of the words.
use mathlib.Core.Path.{◌≡◌, ap}
use mathlib.Core.Logic.{◌≢◌, ◌⊎◌, inl, inr}
use mathlib.Core.List.{List}
use Prim.Native.Nat.{ℕ, ◌+◌, ◌*◌, ◌<◌}
use native.Mathlib.Omega.{arith}
use lib.ListN.{length}
use Rattle.paper.specs.Words.{byte_at, Bytes}
use Rattle.paper.specs.Altered.{Altered}
use Rattle.paper.proofs.Sums.{sum_altered}
use Rattle.damage.proofs.Weights.{weight, counted, weighed, weight_1_or_256}

-- Two sums that differ, but by less than 65535.
abbrev pub Near : ℕ → ℕ → Type 0
Near s t = (s ≢ t) × (s < t + 65535) × (t < s + 65535)

-- Sums that differ as two different bytes do, once or 256 times.
byte_near : (w x y s t : ℕ) → (w ≡ 1) ⊎ (w ≡ 256) → x < 256 → y < 256 → x ≢ y → s + w * y ≡ t + w * x → Near s t
byte_near w x y s t (inl e) h k d q = let p : s + 1 * y ≡ t + 1 * x = rw e at q in omega arith
byte_near w x y s t (inr e) h k d q = let p : s + 256 * y ≡ t + 256 * x = rw e at q in omega arith

-- One byte altered changes the sum of the words, but by less than 65535.
pub weighed_altered : (b b' : List ℕ) → Bytes b → Bytes b' → Altered b b' → Near (weighed b) (weighed b')
weighed_altered b b' h h' a =
    let i = a.place in
    let moved = sum_altered (length b) i (counted b) (counted b') a.inside (λ j e. ap (λ (x : ℕ). weight j * x) (a.elsewhere j e)) in
    rw a.length_kept (byte_near (weight i) (byte_at b i) (byte_at b' i) _ _ (weight_1_or_256 i) (h i) (h' i) a.different moved)
