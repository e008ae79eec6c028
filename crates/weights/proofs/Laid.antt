-- The weights of pairs set down in both arrays, pair by pair.
use mathlib.Core.Path.{◌≡◌, refl, sym, ◌∙◌}
use mathlib.Core.List.{List}
use Prim.Native.Nat.{ℕ, ◌+◌, ◌-◌, ◌*◌, ◌≤◌, ◌<◌}
use native.Mathlib.Omega.{arith}
use lib.ListN.{length, set, replicate, length-set}
use Rattle.paper.specs.Table.{classes, shared}
use Rattle.paper.specs.Forest.{weight}
use Rattle.paper.proofs.Counts.{count_le}
use Rattle.table.specs.Counted.{Counted}
use Rattle.weights.specs.Weighed.{weight_in, agree, Weighed}
use Rattle.weights.specs.Named.{Named}
use Rattle.weights.specs.Laid.{Laid, Lays}
use Rattle.weights.proofs.Weighed.{weighed_starts, weighed_skips, weighed_ends, weighed_more}
use Rattle.weights.proofs.Named.{named_starts, named_skips, named_ends, named_more, named_same}

-- A weight is one less than the classes shared.
weight-shared : (t : List ℕ) (u v : ℕ) → weight t u v ≡ shared t u v - 1
unfolding weight
weight-shared t u v = refl

-- No pair shares more than 256 classes.
pub shared_few : (t : List ℕ) (n k u v same : ℕ) → Counted t n k → same ≡ shared t u v → same ≤ 256
shared_few t n k u v same C e = omega (arith, e, count_le (classes t) (agree t u v), C.few_classes, C.classes_are)

-- One pair more, in both arrays.
pub lays_one : (weights seen : List ℕ) (u v same w : ℕ) → length weights ≡ 262144 → length seen ≡ 256 → u < 512 → v < 512 → w < 256 → w ≡ same - 1
    → Lays weights seen u v same (set weights (u * 512 + v) w) (set seen w w)
lays_one weights seen u v same w long short ub vb small e =
    record {
      long_weights = length-set weights (u * 512 + v) w ∙ long;
      long_seen = length-set seen w w ∙ short;
      more = λ t n few vn q L.
          let is : w ≡ weight t u v = rw (weight-shared t u v, ← q) e in
          record {
            long_weights = length-set weights (u * 512 + v) w ∙ long;
            weighed = weighed_more t n few weights u v w vn (omega arith) is L.weighed;
            long_seen = length-set seen w w ∙ short;
            named = named_more (weight t) n few seen u v w vn short is small L.named;
          };
    }

module _ (t : List ℕ) (n : ℕ) (few : n ≤ 512) (weights : List ℕ) where
  -- At the start none is set down.
  pub laid_starts : length weights ≡ 262144 → Laid t n weights (replicate 256 0) (0 * 512)
  laid_starts long = record { long_weights = long; weighed = weighed_starts t n few weights; long_seen = refl; named = named_starts (weight t) n few }

  module _ (seen : List ℕ) where
    -- No pair stands between the beginning of a first state's places and the pair with the state after it.
    pub laid_skips : (u : ℕ) → Laid t n weights seen (u * 512) → Laid t n weights seen (u * 512 + (u + 1))
    laid_skips u L =
        record {
          long_weights = L.long_weights;
          weighed = weighed_skips t n few weights u L.weighed;
          long_seen = L.long_seen;
          named = named_skips (weight t) n few seen u L.named;
        }

    -- No pair stands between the last of a first state's and the next first state's places.
    pub laid_ends : (u : ℕ) → Laid t n weights seen (u * 512 + n) → Laid t n weights seen ((u + 1) * 512)
    laid_ends u L =
        record {
          long_weights = L.long_weights;
          weighed = weighed_ends t n few weights u L.weighed;
          long_seen = L.long_seen;
          named = named_ends (weight t) n few seen u L.named;
        }

    -- With all pairs set down the marks are of the weights in the array.
    pub laid_all : Laid t n weights seen (n * 512) → Weighed t n weights (n * 512) × Named (weight_in weights) n (n * 512) seen
    laid_all L = (L.weighed, named_same (weight t) (weight_in weights) n (n * 512) seen (λ u v uv vb h. sym (L.weighed u v uv vb h)) L.named)

-- Four pairs more, one after the other.
pub laid_four : (t : List ℕ) (n u v : ℕ) → n ≤ 512 → v + 4 ≤ n → (a b c d : ℕ)
    → a ≡ shared t u v → b ≡ shared t u (v + 1) → c ≡ shared t u (v + 2) → d ≡ shared t u (v + 3)
    → {w₀ s₀ w₁ s₁ w₂ s₂ w₃ s₃ w₄ s₄ : List ℕ}
    → Lays w₀ s₀ u v a w₁ s₁ → Lays w₁ s₁ u (v + 1) b w₂ s₂ → Lays w₂ s₂ u (v + 2) c w₃ s₃ → Lays w₃ s₃ u (v + 3) d w₄ s₄
    → Laid t n w₀ s₀ (u * 512 + v) → Laid t n w₄ s₄ (u * 512 + (v + 4))
laid_four t n u v few vb a b c d ea eb ec ed A B C D L =
    let one : v + 1 + 1 ≡ v + 2 = omega arith in
    let two : v + 2 + 1 ≡ v + 3 = omega arith in
    let three : v + 3 + 1 ≡ v + 4 = omega arith in
    let first = A.more t n few (omega arith) ea L in
    let second = rw one at (B.more t n few (omega arith) eb first) in
    let third = rw two at (C.more t n few (omega arith) ec second) in
    rw three at (D.more t n few (omega arith) ed third)
